-- A slot whose seat is shown the whole history, and whose doubt is settled by it.
use Rattle.std.specs.Prelude.{◌≡◌, Some, None}
use Rattle.dir_records.specs.declared.entry.DirEntry.{DirEntry}
use Rattle.history_seats.specs.Directory.{given_version}
use Rattle.history_seats.specs.Records.{Version}
use Rattle.history_seats.specs.Rule.{IsSound}
use Rattle.history_seats.specs.Views.{GateView}
use Rattle.commit_gate.specs.declared.doubt_outcome.Settled.{Settled}
use Rattle.commit_gate.specs.declared.doubt_outcome.Settled.TheVariants.{Open, Landed, Dropped}
use Rattle.core_laws.specs.GateParts.{IsVersionOf}
use Rattle.object_slots.specs.SlotValues.{SlotValue}
use Rattle.object_slots.specs.Fits.{SeesWhole}
use Rattle.object_slots.specs.Learning.{dropped_slot, landed_slot, learned, shown}
use Rattle.object_slots.specs.GuardedReads.{GivesVersion}

-- the slot behind that
abbrev pub met : GateView → SlotValue → SlotValue
met gate slot = learned gate slot.doubt (shown gate slot)

-- the slot, by what became of its commit in doubt
abbrev pub settled_slot : Settled → SlotValue → SlotValue
settled_slot Open slot = slot
settled_slot Landed slot = landed_slot slot
settled_slot Dropped slot = dropped_slot slot

-- The slot is the one of the entry's file. It sees the whole history, by which no commit of its object is in doubt, and which gives that
-- version, the entry's.
pub record IsAtEntry (gate : GateView) (slot : SlotValue) (e : DirEntry) (v : Version) : Type 0 where
  pub sound : IsSound gate
  pub file : slot.number ≡ e.file
  pub settled : slot.doubt ≡ None
  pub sees : SeesWhole gate slot
  pub generation : sees.seat.knows.generation ≡ e.generation
  pub gives : GivesVersion slot v
  pub given : given_version sees.seat.knows.mounted gate.all e.file e.generation ≡ Some v
  pub own : IsVersionOf e v

-- A slot that gave the version gives it still. It is as it was, but for what its seat was shown.
pub record StillGives (old new : SlotValue) (v : Version) : Type 0 where
  pub gives : GivesVersion new v
  pub same : new ≡ record old { seat = new.seat }
