-- What serving a mounted store begins with.
use Rattle.std.specs.Prelude.{◌≡◌, None}
use Rattle.disk_model.specs.State.{FileState}
use Rattle.tee_types.specs.Limits.{last_file}
use Rattle.core_laws.specs.Stores.{Store}
use Rattle.object_calls.specs.MountLaws.{IsFirstView}
use Rattle.object_calls.specs.Opening.{OpeningValue, entries_in}
use Rattle.object_calls.specs.Services.{AreFirstSlots, ServiceValue}

-- The gate is the opening's, there is no event, and the slot of each file is free, of the generation of the entry that names the file, or 0.
pub record ServesOpening {F R : Type 0} (state : F → FileState) (store : Store) (o : OpeningValue F R) (s : ServiceValue F R) : Type 0 where
  pub gate : s.gate.gate ≡ o.gate
  pub view : IsFirstView store s.gate.journal.knows
  pub undecided : s.gate.journal.knows.decided ≡ 0
  pub unclosed : s.gate.closing ≡ None
  pub slots : AreFirstSlots store (entries_in o) state o.files last_file s.slots
  pub storage_key : s.storage_key ≡ o.storage_key
  pub spare : s.spare ≡ o.spare
