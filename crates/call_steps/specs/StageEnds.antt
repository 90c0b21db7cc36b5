-- The ends of a commit, on the side of its slot.
use Rattle.std.specs.Prelude.{None, Option, Some, ℕ}
use Rattle.history_seats.specs.Views.{Sight, SlotView}
use Rattle.object_slots.specs.SlotValues.{Holding, SlotValue, with_stage, without_stage}
use Rattle.commit_gate.specs.declared.CommitEnd.{CommitEnd}
use Rattle.commit_gate.specs.declared.CommitEnd.TheVariants.{Doubtful, Dropped, Made, Spent}

-- what the slot holds behind it
abbrev pub holds_behind : Holding → CommitEnd → Holding
holds_behind holds (Made n) = with_stage holds
holds_behind holds (Dropped cause) = without_stage holds
holds_behind holds (Doubtful n cause) = holds
holds_behind holds Spent = without_stage holds

-- and its doubt, where the event stands at that place
abbrev pub slot_doubt : (place : ℕ) → CommitEnd → Option ℕ
slot_doubt place (Doubtful n cause) = Some place
slot_doubt place end = None

-- the slot behind it, with its seat
abbrev pub slot_behind : SlotValue → Sight SlotView → CommitEnd → (place : ℕ) → SlotValue
slot_behind slot seat end place = record slot { seat = Some seat; holds = holds_behind slot.holds end; doubt = slot_doubt place end }
