-- What the calls of a slot are for the core machine: steps of the slot, each judged by what its seat knows.
use Rattle.std.specs.Prelude.{ℕ, Option, IsTrue}
use Rattle.disk_model.specs.State.{FileState}
use Rattle.history_seats.specs.Records.{Version}
use Rattle.history_seats.specs.Views.{SlotView}
use Rattle.core_laws.specs.SlotParts.{Knows, SlotPart}
use Rattle.core_laws.specs.SlotSteps.{KnowsOne, MayStage, Reader, SlotSteps, Stager, Taker}
use Rattle.object_slots.specs.SlotValues.{HeldObject}

-- the file, what the slot's seat knows, and who has an open stage on the file
abbrev pub part : FileState → SlotView → (stage : Option ℕ) → SlotPart
part file view stage = record { file = file; view = view; stage = stage }

-- a call that only reads
abbrev pub ReadSteps : (old new : FileState) → Type 0
ReadSteps old new = (view : SlotView) (stage : Option ℕ) → SlotSteps Reader (part old view stage) (part new view stage)

-- A call that stages on the file writes beside the committed tree; it is asked that the seat knows no other version of the file.
abbrev pub StageSteps : (old new : FileState) → HeldObject → Type 0
StageSteps old new o = (actor : ℕ) (view : SlotView) (stage : Option ℕ) → MayStage (Stager actor) stage → (IsTrue old.honest → KnowsOne o.tree.root o.tree.tree view)
    → (after : Option ℕ) × SlotSteps (Stager actor) (part old view stage) (part new view after)

-- A call of one who has taken the file may write anywhere; it is asked that the seat knows no version of the file.
abbrev pub TakerSteps : (old new : FileState) → Type 0
TakerSteps old new = (actor : ℕ) (view : SlotView) (stage : Option ℕ) → (IsTrue old.honest → (v : Version) → Knows view v → ⊥)
    → (after : Option ℕ) × SlotSteps (Taker actor) (part old view stage) (part new view after)
