-- What the calls of the gate do: steps of the core machine, whatever the files of the slots are.
use Rattle.std.specs.Prelude.{◌≡◌, ℕ, List, [], ◌∷◌, Option, Some, None}
use Rattle.disk_model.specs.State.{FileState}
use Rattle.history_seats.specs.Records.{Version}
use Rattle.crash_core.specs.CoreState.{Phase}
use Rattle.crash_core.specs.CoreSteps.{CoreStep, IsStep}
use Rattle.core_laws.specs.SlotParts.{SlotPart}
use Rattle.core_laws.specs.GateParts.{GatePart}
use Rattle.core_laws.specs.Joined.{core_of}

-- a slot that a call of the gate is handed, by whoever holds its lock
pub record Handed : Type 0 where
  pub file : ℕ
  pub state : FileState

-- of the slots the call knows that one's file
abbrev pub IsHanded : Option Handed → (ℕ → SlotPart) → Type 0
IsHanded None slots = Unit {0}
IsHanded (Some handed) slots = (slots handed.file).file ≡ handed.state

-- A step of the gate is one of the core machine, whatever the other slots are.
abbrev pub IsGateStep : Phase → Option Handed → GatePart → CoreStep Version → GatePart → Type 0
IsGateStep phase handed old step new = (slots : ℕ → SlotPart) → IsHanded handed slots → IsStep phase (core_of old slots) step (core_of new slots)

-- a list of steps; what the core machine does not see of the gate may change besides
abbrev pub IsGateRun : Phase → Option Handed → GatePart → List (CoreStep Version) → GatePart → Type 0
IsGateRun phase handed old [] new = (slots : ℕ → SlotPart) → core_of new slots ≡ core_of old slots
IsGateRun phase handed old (step ∷ steps) new = (mid : GatePart) × IsGateStep phase handed old step mid × IsGateRun phase handed mid steps new

-- What a call of the gate does is a list of such steps.
pub record GateSteps (phase : Phase) (handed : Option Handed) (old new : GatePart) : Type 0 where
  pub steps : List (CoreStep Version)
  pub run : IsGateRun phase handed old steps new
