-- What the seats' calls do to what seats know.
use Rattle.std.specs.Prelude.{◌≡◌, ℕ, [], ◌∷◌, ◌++◌, length, Option, Some, None, unwrap_or}
use Rattle.tee_types.specs.declared.call.Call.{Call}
use Rattle.tee_types.specs.declared.reply.Reply.{Reply}
use Rattle.store_model.specs.declared.event.Event.{Event}
use Rattle.store_model.specs.declared.event.Mark.{Mark}
use Rattle.store_model.specs.declared.event.Event.TheVariants.{Call as CallEvent, Landed}
use Rattle.atomic_table.specs.Seated.{TableId}
use Rattle.store_model.specs.Record.{Tag, events_of}
use Rattle.store_model.specs.History.{count_of}
use Rattle.history_seats.specs.Records.{Version, HistoryRecord}
use Rattle.history_seats.specs.Mounts.{Mounted}
use Rattle.history_seats.specs.Tags.{HasRightTag, HasDueTag}
use Rattle.history_seats.specs.Views.{GateView, SlotView, PassView, Joined, Sight}
use Rattle.history_seats.specs.Numbers.{without}

-- The caller's values that a tag takes: the version that is committed in the slot's file after the event, and the one that the event's
-- doubt leaves there.
pub record TagVersions : Type 0 where
  pub committed : Option Version
  pub doubted : Option Version

-- the record of an event: its tag has the file and the generation of the slot that comes with it
abbrev pub record_of : Event → Option SlotView → TagVersions → HistoryRecord
record_of event None versions = record { event = event; tag = None }
record_of event (Some slot) versions =
    record { event = event; tag = Some (record { file = slot.file; generation = slot.generation; committed = versions.committed; doubted = versions.doubted }) }

-- the record of a call: its event, and what the tag tells of the file that it was answered from
abbrev pub call_record : (session number : ℕ) → Call → Reply → Mark → Option (Tag Version) → HistoryRecord
call_record session number call reply mark tag = record { event = CallEvent session number call reply mark; tag = tag }

-- the record of a landing
abbrev pub landing_of : ℕ → HistoryRecord
landing_of commit = record { event = Landed commit; tag = None }

-- the event is the session's next call
abbrev pub IsNextOf : PassView → Event → Type 0
IsNextOf pass (CallEvent session number call reply mark) = (session ≡ pass.session) × (number ≡ count_of pass.session (events_of pass.seen))
IsNextOf pass (Landed commit) = ⊥

-- one more record
abbrev pub with_record : HistoryRecord → GateView → GateView
with_record r gate = record gate { all = gate.all ++ r ∷ [] }

-- the gate with one more file out, and the new seat; the mount that was told before stays
abbrev pub with_slot_out : Mounted → ℕ → GateView → GateView
with_slot_out mounted file gate = record gate { mounted = Some (unwrap_or gate.mounted mounted); files = file ∷ gate.files }

abbrev pub new_slot : Mounted → (file generation : ℕ) → GateView → SlotView
new_slot mounted file generation gate = record {
  mounted = unwrap_or gate.mounted mounted;
  seen = gate.all;
  decided = gate.decided;
  file = file;
  generation = generation;
}

-- the gate with one more session out, and the new seat
abbrev pub with_pass_out : Mounted → ℕ → GateView → GateView
with_pass_out mounted session gate = record gate { mounted = Some (unwrap_or gate.mounted mounted); sessions = session ∷ gate.sessions }

abbrev pub new_pass : Mounted → ℕ → GateView → PassView
new_pass mounted session gate = record { mounted = unwrap_or gate.mounted mounted; seen = gate.all; decided = gate.decided; session = session }

-- the slot's view once it sees the whole history, and the pass's
abbrev pub slot_renewed : GateView → SlotView → SlotView
slot_renewed gate slot = record slot { seen = gate.all; decided = gate.decided }

abbrev pub pass_renewed : GateView → PassView → PassView
pass_renewed gate pass = record pass { seen = gate.all; decided = gate.decided }

-- no doubt of now lands any more
abbrev pub doubt_dropped : GateView → GateView
doubt_dropped gate = record gate { decided = length gate.all }

abbrev pub without_slot : SlotView → GateView → GateView
without_slot slot gate = record gate { files = without slot.file gate.files }

abbrev pub without_pass : PassView → GateView → GateView
without_pass pass gate = record gate { sessions = without pass.session gate.sessions }

-- What a new record has to meet: its tag is right, and is there where it is needed.
pub record IsFitting (gate : GateView) (r : HistoryRecord) : Type 0 where
  pub right : (mounted : Mounted) → gate.mounted ≡ Some mounted → HasRightTag mounted gate.all r
  pub tagged : HasDueTag r

-- the view of a seat that may be there
abbrev pub view_in : Option (Sight SlotView) → Option SlotView
view_in None = None
view_in (Some slot) = Some slot.knows

-- a seat that may be there is of that table
abbrev pub IsOf : TableId → Option (Sight SlotView) → Type 0
IsOf table None = Unit {0}
IsOf table (Some slot) = slot.table ≡ table

-- a seat that may be there, once it sees the whole history
abbrev pub seat_renewed : GateView → Option (Sight SlotView) → Option (Sight SlotView)
seat_renewed gate None = None
seat_renewed gate (Some slot) = Some (record slot { knows = slot_renewed gate slot.knows })

-- the gate with these seats
abbrev pub together : GateView → Option SlotView → Option PassView → Joined
together gate slot pass = record { gate = gate; slot = slot; pass = pass; kept = None }

-- the gate with a kept half
abbrev pub beside : GateView → PassView → Joined
beside gate kept = record { gate = gate; slot = None; pass = None; kept = Some kept }
