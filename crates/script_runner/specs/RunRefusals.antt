-- Why a bench is not mounted: what was read is no store, or a device failed.
use Rattle.std.specs.Prelude.{◌≡◌, ◌⊎◌}
use Rattle.run_acts.specs.declared.MountFault.{MountFault}
use Rattle.run_acts.specs.declared.MountFault.TheVariants.{CardBlock, CardResult, Directory, Failed, Frame, NoMemory, NoStore, OldFormat, Spent}

-- what was read is no store
abbrev pub IsRefusal : MountFault → Type 0
IsRefusal NoStore = Unit {0}
IsRefusal (CardBlock byte) = Unit {0}
IsRefusal (OldFormat file) = Unit {0}
IsRefusal (Directory fault) = Unit {0}
IsRefusal (Frame fault) = Unit {0}
IsRefusal (CardResult number) = Unit {0}
IsRefusal _ = ⊥

-- a call of a device failed, or the card's counter is at its end
abbrev pub IsDeviceFault : MountFault → Type 0
IsDeviceFault (Failed cause) = Unit {0}
IsDeviceFault Spent = Unit {0}
IsDeviceFault _ = ⊥

-- behind it a run may end for want of memory: that was why, or its line found none
abbrev pub MayWantMemory : MountFault → Type 0
MayWantMemory fault = IsRefusal fault ⊎ (fault ≡ NoMemory)
