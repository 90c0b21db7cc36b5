-- From one part at rest to the next, the gate moves as the parts of the core machine may.
use Rattle.std.specs.Prelude.{◌≡◌, ◌≢◌, ℕ, List, Option, Some, IsTrue}
use Rattle.tee_types.specs.Limits.{IsObjectFile, directory_file}
use Rattle.history_seats.specs.Rule.{SlotFits}
use Rattle.history_seats.specs.Views.{GateView}
use Rattle.crash_core.specs.CoreState.{IsTrusted, put}
use Rattle.core_laws.specs.SlotParts.{SlotHolds, SlotPart}
use Rattle.core_laws.specs.Joined.{Parts, PartsHold}
use Rattle.core_laws.specs.Moves.{GateMoves}
use Rattle.core_laws.specs.TamperScenarios.{TamperScenario}
use Rattle.core_laws.specs.Stores.{Store}
use Rattle.crash_core.specs.declared.change.DoubtedChange.{DoubtedChange}
use Rattle.store_commit.specs.Sides.{Sides}
use Rattle.commit_gate.specs.FinishedPhases.{phase_under}
use Rattle.commit_gate.specs.Readings.{IsTiedUnder}
use Rattle.commit_gate.specs.Resting.{IsGateOf, StepsTo, resting_part}

-- The slot that was handed over comes back: of it only the view may have changed. Each slot's view fits the gate's, as the seats have it.
pub record HandsBack (store : Store) (from : Parts) (file : ℕ) (slot : SlotPart) (view : GateView) : Type 0 where
  pub same_file : slot.file ≡ (from.slots file).file
  pub same_stage : slot.stage ≡ (from.slots file).stage
  pub holds : file ≢ directory_file → SlotHolds store.keys slot
  pub numbered : file ≢ directory_file → slot.view.file ≡ file
  pub fits : IsObjectFile file → SlotFits view slot.view
  pub others : (other : ℕ) → IsObjectFile other → other ≢ file → SlotFits view (from.slots other).view

-- So each call of the gate is a move, and moves in any order are one run of the core machine.
abbrev pub RestingGatesMove : Type 0
RestingGatesMove =
    (store : Store) (scenario : TamperScenario) (from : Parts) (file : ℕ) (slot : SlotPart) (g : Sides) (doubt : Option DoubtedChange) (holds : List (Option ℕ)) (view : GateView)
    → PartsHold (phase_under store scenario) from → (to : StepsTo store scenario (Some (record { file = file; state = (from.slots file).file })) from.gate g doubt holds view)
    → IsGateOf store g doubt holds to.card → IsTiedUnder store scenario view g.dir.entries g.counter doubt → (IsTrusted (phase_under store scenario) directory_file → IsTrue g.file.honest)
    → HandsBack store from file slot view
    → GateMoves (phase_under store scenario) from (record { gate = resting_part store scenario g doubt holds to.card view; slots = put from.slots file slot })
