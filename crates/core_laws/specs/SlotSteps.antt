-- What the calls of a slot do: steps of its file, each judged by what the slot knows itself.
use Rattle.std.specs.Prelude.{◌≡◌, ◌⊎◌, ℕ, ◌<◌, ◌≤◌, List, [], ◌∷◌, Option, Some, None, Ok, IsTrue}
use Rattle.disk_model.specs.State.{FileState, Sound}
use Rattle.disk_model.specs.Keeps.{FileCall, IsCall, Runs, write, sync, rest}
use Rattle.node_image.specs.declared.node.RootRef.{RootRef}
use Rattle.htree_file.specs.Opening.{Loaded}
use Rattle.htree_file.specs.Selected.{Lies}
use Rattle.history_seats.specs.Records.{Version}
use Rattle.history_seats.specs.Views.{SlotView}
use Rattle.core_laws.specs.SlotParts.{Knows, SlotPart}

-- The version loads, and no place from one up to another lies in a part that it selects.
pub record IsSpared (from upto : ℕ) (v : Version) : Type 0 where
  pub tree : Loaded
  pub loads : v.loads ≡ Ok tree
  pub off : (place : ℕ) → from ≤ place → place < upto → Lies tree.layout tree.nodes v.root.version place → ⊥

-- what a call of the file writes spares each version that the view knows
abbrev pub SparesKnown : SlotView → FileCall → Type 0
SparesKnown view (write from upto) = (v : Version) → Knows view v → IsSpared from upto v
SparesKnown view sync = Unit {0}
SparesKnown view rest = Unit {0}

-- Who calls a slot's file: one who only reads and syncs it, one who has taken it, or one who stages on it.
pub data FileUser : Type 0 where
  Reader : FileUser
  Taker : (actor : ℕ) → FileUser
  Stager : (actor : ℕ) → FileUser

-- who may write beside a stage that is open
abbrev pub MayStage : FileUser → Option ℕ → Type 0
MayStage Reader stage = ⊥
MayStage (Taker actor) stage = Unit {0}
MayStage (Stager actor) stage = (stage ≡ None) ⊎ (stage ≡ Some actor)

-- the open stage after a write: who stages has it, or opens it
abbrev pub IsStageWritten : FileUser → (old new : Option ℕ) → Type 0
IsStageWritten Reader old new = ⊥
IsStageWritten (Taker actor) old new = new ≡ old
IsStageWritten (Stager actor) old new = MayStage (Stager actor) old × (new ≡ Some actor)

-- and after any call
abbrev pub IsStageAfter : FileUser → FileCall → (old new : Option ℕ) → Type 0
IsStageAfter user (write from upto) old new = IsStageWritten user old new
IsStageAfter user sync old new = new ≡ old
IsStageAfter user rest old new = new ≡ old

-- A call of the slot's file. If the file is honest, it writes beside each version that the slot's view knows, and each of these loads.
pub record IsSlotCall (user : FileUser) (call : FileCall) (old new : SlotPart) : Type 0 where
  pub called : IsCall call old.file new.file
  pub sound : Sound new.file
  pub spares : IsTrue new.file.honest → SparesKnown old.view call
  pub stage : IsStageAfter user call old.stage new.stage
  pub view : new.view ≡ old.view

-- A step of a slot: a call of its file, or its open stage is dropped.
pub data SlotStep : Type 0 where
  CallFile : FileCall → SlotStep
  DropOpenStage : SlotStep

abbrev pub IsSlotStep : FileUser → SlotPart → SlotStep → SlotPart → Type 0
IsSlotStep user old (CallFile call) new = IsSlotCall user call old new
IsSlotStep user old DropOpenStage new = new ≡ record old { stage = None }

-- a list of steps
abbrev pub IsSlotRun : FileUser → SlotPart → List SlotStep → SlotPart → Type 0
IsSlotRun user old [] new = new ≡ old
IsSlotRun user old (step ∷ steps) new = (mid : SlotPart) × IsSlotStep user old step mid × IsSlotRun user mid steps new

-- What a slot's call does is a list of such steps, and its seat sees nothing new meanwhile.
pub record SlotSteps (user : FileUser) (old new : SlotPart) : Type 0 where
  pub steps : List SlotStep
  pub run : IsSlotRun user old steps new

-- each version that the view knows is of that reference, and loads that tree
abbrev pub KnowsOne : RootRef → Loaded → SlotView → Type 0
KnowsOne root tree view = (v : Version) → Knows view v → (v.root ≡ root) × (v.loads ≡ Ok tree)

-- Calls of the file that write beside the one tree that the slot knows are such steps.
abbrev pub FileRunsAreSteps : Type 0
FileRunsAreSteps =
    (user : FileUser) (old : SlotPart) (root : RootRef) (tree : Loaded) (new : FileState) → MayStage user old.stage → (IsTrue old.file.honest → KnowsOne root tree old.view)
    → Runs (Lies tree.layout tree.nodes root.version) old.file new → Sound new → (stage : Option ℕ) × SlotSteps user old (record old { file = new; stage = stage })
