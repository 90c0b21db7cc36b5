-- What a fault of a tree, or of loading, is for a slot, and why a slot's call answers as it does.
use Rattle.std.specs.Prelude.{◌≡◌, ℕ, Result, Ok, Err, IfErr}
use Rattle.disk_model.specs.Faults.{Rose}
use Rattle.disk_model.specs.State.{FileState}
use Rattle.htree_file.specs.declared.fault.TreeFault.{TreeFault}
use Rattle.htree_file.specs.declared.fault.TreeFault.TheVariants.{Failed as TreeFailed, NoEntropy as TreeNoEntropy, NoMemory as TreeNoMemory}
use Rattle.htree_file.specs.Answers.{FileFailed, FilePassed}
use Rattle.object_file.specs.declared.fault.ObjectFault.{ObjectFault}
use Rattle.object_file.specs.declared.fault.ObjectFault.TheVariants.{Tree, WrongSize}
use Rattle.object_slots.specs.declared.fault.SlotFault.{SlotFault}
use Rattle.object_slots.specs.declared.fault.SlotFault.TheVariants.{Corrupt, Failed, NoEntropy, NoMemory}

abbrev pub slot_fault : TreeFault → SlotFault
slot_fault (TreeFailed count) = Failed count
slot_fault (TreeNoEntropy count) = NoEntropy count
slot_fault TreeNoMemory = NoMemory
slot_fault _ = Corrupt

abbrev pub load_fault : ObjectFault → SlotFault
load_fault (Tree fault) = slot_fault fault
load_fault (WrongSize entry head) = Corrupt

-- a call of the file failed
abbrev pub IsFileFault : SlotFault → Type 0
IsFileFault (Failed count) = Unit {0}
IsFileFault _ = ⊥

-- nothing was found bad
abbrev pub IsSound : SlotFault → Type 0
IsSound Corrupt = ⊥
IsSound _ = Unit {0}

-- no draw failed
abbrev pub NotDrawn : SlotFault → Type 0
NotDrawn (NoEntropy count) = ⊥
NotDrawn _ = Unit {0}

-- a fault of the file has its cause in the file's counts, and no other answer has
abbrev pub FaultCause : (old new : FileState) → SlotFault → Type 0
FaultCause old new (Failed count) = FileFailed old new count
FaultCause old new _ = FilePassed old new

abbrev pub HasCause : {A : Type 0} → (old new : FileState) → Result A SlotFault → Type 0
HasCause old new (Ok answer) = FilePassed old new
HasCause old new (Err fault) = FaultCause old new fault

-- a draw that failed counted a fault of the entropy, which the answer carries; no other answer counted one
abbrev pub DrawFault : (old new : ℕ) → SlotFault → Type 0
DrawFault old new (NoEntropy count) = Rose old new × (count ≡ new)
DrawFault old new _ = new ≡ old

abbrev pub DrawCause : {A : Type 0} → (old new : ℕ) → Result A SlotFault → Type 0
DrawCause old new (Ok answer) = new ≡ old
DrawCause old new (Err fault) = DrawFault old new fault

-- Why a call that writes a file and draws answers as it does. The file counted faults from `old` to `new`, and the entropy from
-- `drew` to `draws`; it is reliable after the call where it was before.
pub record HasCauses (old new : FileState) (drew draws : ℕ) (Was Is : Type 0) {A : Type 0} (result : Result A SlotFault) : Type 0 where
  pub file : HasCause old new result
  pub drawn : DrawCause drew draws result
  pub lasts : Was → Is
  pub reliable : Was → IfErr result NotDrawn
