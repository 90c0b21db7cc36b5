-- What loading the object of a version answers, and what its slot then has.
use Rattle.std.specs.Prelude.{◌≡◌, List, ℕ, Some, Result, Ok, Err, IsOk, IsTrue}
use Rattle.hmac_keys.specs.declared.Keys.{Keys}
use Rattle.dir_records.specs.declared.entry.DirEntry.{DirEntry}
use Rattle.store_model.specs.Object.{Damaged}
use Rattle.history_seats.specs.Records.{Version}
use Rattle.object_slots.specs.declared.fault.SlotFault.{SlotFault}
use Rattle.object_slots.specs.declared.fault.SlotFault.TheVariants.{Corrupt, NoEntropy}
use Rattle.object_slots.specs.Loads.{LoadsObject}
use Rattle.object_slots.specs.SlotValues.{Holding, IsLive, SlotValue, free}
use Rattle.object_slots.specs.SlotObjects.{IsOfVersion}

-- the slot has an object without a stage, which is of that version
pub record HoldsVersion (keys : Keys) (slot : SlotValue) (v : Version) : Type 0 where
  pub live : IsLive slot.holds
  pub own : IsOfVersion keys slot.file slot.holds (Some v)

-- the same, or why it is not loaded: where loading is refused as corrupt over a file that is honest now, the version's object is damaged
abbrev pub LoadsVersion : Keys → SlotValue → Version → {A : Type 0} → Result A SlotFault → Type 0
LoadsVersion keys slot v (Ok done) = HoldsVersion keys slot v
LoadsVersion keys slot v (Err Corrupt) = IsTrue slot.file.honest → v.object ≡ Damaged v.size
LoadsVersion keys slot v (Err (NoEntropy count)) = ⊥
LoadsVersion keys slot v (Err fault) = Unit {0}

-- a slot that held nothing was filled by the entry; any other stays, and nothing is refused
abbrev pub FillsOrStays : Holding → (old new : SlotValue) → (tsk : List ℕ) → DirEntry → {A : Type 0} → Result A SlotFault → Type 0
FillsOrStays free old new tsk e result = LoadsObject old.file new.file tsk e new.holds result
FillsOrStays held old new tsk e result = (new ≡ old) × IsOk result
