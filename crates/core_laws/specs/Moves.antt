-- Moves of slots and gate, each judged by what the part knows itself, are one run of the core machine, in whatever order they come.
use Rattle.std.specs.Prelude.{◌≡◌, ◌≢◌, ◌⊎◌, ℕ, List, [], ◌∷◌, Some, IsTrue}
use Rattle.node_image.specs.declared.node.RootRef.{RootRef}
use Rattle.node_image.specs.References.{current_format}
use Rattle.tee_types.specs.Limits.{IsObjectFile, directory_file}
use Rattle.history_seats.specs.Records.{Version}
use Rattle.crash_core.specs.EntryLists.{IsNamed}
use Rattle.crash_core.specs.Mounting.{Held}
use Rattle.crash_core.specs.CoreState.{IsTrusted, Phase, put}
use Rattle.crash_core.specs.CoreSteps.{CoreStep, IsRun}
use Rattle.core_laws.specs.SlotParts.{SlotHolds, SlotPart}
use Rattle.core_laws.specs.SlotSteps.{FileUser, Reader, SlotSteps, Stager, Taker}
use Rattle.core_laws.specs.GateParts.{GateHolds, GatePart}
use Rattle.core_laws.specs.GateSteps.{GateSteps}
use Rattle.core_laws.specs.Joined.{Parts, PartsFit, PartsHold, core_of}

-- who writes the file has taken it, or an entry names it in the current format
abbrev pub MayUse : GatePart → (file : ℕ) → FileUser → Type 0
MayUse g file Reader = Unit {0}
MayUse g file (Taker actor) = g.takes file ≡ Some actor
MayUse g file (Stager actor) = (root : RootRef) × IsNamed g.entries file root × (root.format ≡ current_format)

-- One slot moves. No commit under way puts its file: such a one holds the slot's lock.
pub record SlotMoves (phase : Phase) (old new : Parts) : Type 0 where
  pub file : ℕ
  pub of_object : IsObjectFile file
  pub user : FileUser
  pub may : MayUse old.gate file user
  pub free : (h : Held) → old.gate.putting ≡ Some h → h.entry.file ≢ file
  pub slot : SlotPart
  pub steps : SlotSteps user (old.slots file) slot
  pub honest : IsTrusted phase file → IsTrue slot.file.honest
  pub gate_is : new.gate ≡ old.gate
  pub slots_are : new.slots ≡ put old.slots file slot

-- The gate moves, by as little as one step, and is handed a slot, of which only the view changes. It knows nothing of the other slots, and
-- changes nothing there.
pub record GateMoves (phase : Phase) (old new : Parts) : Type 0 where
  -- the slot's; the directory's where none is handed over
  pub file : ℕ
  pub steps : GateSteps phase (Some (record { file = file; state = (old.slots file).file })) old.gate new.gate
  pub holds : GateHolds phase new.gate
  pub honest : IsTrusted phase directory_file → IsTrue new.gate.directory.honest
  pub slot : SlotPart
  pub same_file : slot.file ≡ (old.slots file).file
  pub same_stage : slot.stage ≡ (old.slots file).stage
  pub slot_holds : file ≢ directory_file → SlotHolds phase.keys slot
  pub slots_are : new.slots ≡ put old.slots file slot
  pub fit : PartsFit phase new.gate new.slots

-- moves in any order
abbrev pub AreMoves : Phase → Parts → List Parts → Parts → Type 0
AreMoves phase old [] new = new ≡ old
AreMoves phase old (mid ∷ rest) new = (SlotMoves phase old mid ⊎ GateMoves phase old mid) × AreMoves phase mid rest new

-- Some run of the core machine leads from the one to the other, at whose end each part has its fact.
pub record MovesTo (phase : Phase) (old new : Parts) : Type 0 where
  pub steps : List (CoreStep Version)
  pub run : IsRun phase (core_of old.gate old.slots) steps (core_of new.gate new.slots)
  pub holds : PartsHold phase new

abbrev pub MovesAreARun : Type 0
MovesAreARun = (phase : Phase) (old : Parts) (moves : List Parts) (new : Parts) → PartsHold phase old → AreMoves phase old moves new → MovesTo phase old new
