-- What loading the object of a locked slot answers, in terms of its version.
use Rattle.std.specs.Prelude.{◌≡◌, Some, Result, Ok, Err, IsTrue}
use Rattle.disk_model.specs.State.{FileState}
use Rattle.store_model.specs.Object.{Damaged}
use Rattle.dir_records.specs.declared.entry.DirEntry.{DirEntry}
use Rattle.history_seats.specs.Records.{Version}
use Rattle.history_seats.specs.Directory.{given_version}
use Rattle.core_laws.specs.GateParts.{IsVersionOf}
use Rattle.object_slots.specs.declared.fault.SlotFault.{SlotFault}
use Rattle.object_slots.specs.declared.fault.SlotFault.TheVariants.{Corrupt}
use Rattle.object_slots.specs.SlotValues.{SlotValue}
use Rattle.object_slots.specs.GuardedReads.{GivesVersion}

-- The slot's view gives the version of the entry, and no doubt touches it; an entry is there.
pub record GivesEntry (slot : SlotValue) (e : DirEntry) : Type 0 where
  pub version : Version
  pub gives : GivesVersion slot version
  pub there : given_version gives.seat.knows.mounted gives.seat.knows.seen gives.seat.knows.file gives.seat.knows.generation ≡ Some version
  pub is : IsVersionOf e version

-- Where loading is refused as corrupt over a file that is honest now, the version's object is damaged.
abbrev pub IsDamagedAnswer : {A : Type 0} → FileState → Version → Result A SlotFault → Type 0
IsDamagedAnswer file v (Err Corrupt) = IsTrue file.honest → v.object ≡ Damaged v.size
IsDamagedAnswer file v (Err fault) = Unit {0}
IsDamagedAnswer file v (Ok done) = Unit {0}
