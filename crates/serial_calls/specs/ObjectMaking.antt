-- What making a new object leaves of its slot, and why it is not made.
use Rattle.std.specs.Prelude.{Err, List, Ok, Result, ℕ, ◌≡◌}
use Rattle.serial_calls.specs.Clearing.{IsClearSlot}
use Rattle.serial_calls.specs.ChangeCauses.{AccusesDevice}
use Rattle.serial_calls.specs.declared.create_failure.CreateFailure.{CreateFailure}
use Rattle.serial_calls.specs.declared.create_failure.CreateFailure.TheVariants.{Failed, Spent}
use Rattle.dir_records.specs.declared.entry.DirEntry.{DirEntry}
use Rattle.disk_model.specs.State.{FileState}
use Rattle.history_seats.specs.Records.{Version}
use Rattle.htree_file.specs.Answers.{FilePassed}
use Rattle.call_steps.specs.NewObjects.{IsNewVersion}
use Rattle.call_steps.specs.GuardedStages.{IsStagedSlot}
use Rattle.node_image.specs.References.{IsCurrent, current_format}
use Rattle.node_image.specs.declared.node.RootRef.{RootRef}
use Rattle.call_steps.specs.declared.SlotFault.{SlotFault}
use Rattle.call_steps.specs.SlotValues.{IsFree, SlotValue, without_stage}
use Rattle.core_laws.specs.Decodings.{IsReal}
use Rattle.core_laws.specs.Stores.{Store}

-- the entry of an object in that file, which the reference names there
abbrev pub entry_by : (app id : List ℕ) → RootRef → (file generation attributes size : ℕ) → DirEntry
entry_by app id root file generation attributes size = record {
  app = app;
  id = id;
  version = root.version;
  file = file;
  hash = root.hash;
  size = size;
  attributes = attributes;
  format = current_format;
  generation = generation;
}

-- The slot has the object, settled and not committed, as a version of its file that the reference names.
pub record IsMadeSlot (store : Store) (slot : SlotValue) (app attributes bytes : List ℕ) (root : RootRef) : Type 0 where
  pub next : Version
  pub of : IsNewVersion next app attributes bytes root
  pub real : IsReal store.keys next
  pub current : IsCurrent next.root
  pub staged : IsStagedSlot store slot next
  pub vacant : IsFree (without_stage slot.holds)

-- that, or the slot is clear
abbrev pub MakesRoot : Store → SlotValue → (app attributes bytes : List ℕ) → Result RootRef SlotFault → Type 0
MakesRoot store slot app attributes bytes (Ok root) = IsMadeSlot store slot app attributes bytes root
MakesRoot store slot app attributes bytes (Err fault) = IsClearSlot store slot

abbrev pub IsMadeOrClear : Store → SlotValue → (app attributes bytes : List ℕ) → Result RootRef CreateFailure → Type 0
IsMadeOrClear store slot app attributes bytes (Ok root) = IsMadeSlot store slot app attributes bytes root
IsMadeOrClear store slot app attributes bytes (Err why) = IsClearSlot store slot

-- so it is too where memory ran out
abbrev pub MakesOrNot : {A : Type 0} → Store → SlotValue → (app attributes bytes : List ℕ) → Result (Result RootRef CreateFailure) A → Type 0
MakesOrNot store slot app attributes bytes (Ok made) = IsMadeOrClear store slot app attributes bytes made
MakesOrNot store slot app attributes bytes (Err none) = IsClearSlot store slot

-- Where no object is made a device failed, and it is told which: the file counted faults from `old` to `new`, and the generator from `drew` to
-- `draws`. Else none failed.
abbrev pub MakingCause : (file : ℕ) → (old new : FileState) → (Reliable : Type 0) → (drew draws : ℕ) → Result RootRef CreateFailure → Type 0
MakingCause file old new Reliable drew draws (Ok root) = FilePassed old new × (draws ≡ drew)
MakingCause file old new Reliable drew draws (Err (Failed cause)) = AccusesDevice old new file Reliable drew draws cause
MakingCause file old new Reliable drew draws (Err Spent) = ⊥

abbrev pub MakingCauseOrNot : {A : Type 0} → (file : ℕ) → (old new : FileState) → (Reliable : Type 0) → (drew draws : ℕ) → Result (Result RootRef CreateFailure) A → Type 0
MakingCauseOrNot file old new Reliable drew draws (Ok made) = MakingCause file old new Reliable drew draws made
MakingCauseOrNot file old new Reliable drew draws (Err none) = FilePassed old new × (draws ≡ drew)
