-- A gate between two calls.
use Rattle.std.specs.Prelude.{◌≡◌, ℕ, List, Option, None, IsTrue}
use Rattle.disk_model.specs.State.{Sound}
use Rattle.node_image.specs.References.{current_format}
use Rattle.tee_types.specs.Limits.{directory_file}
use Rattle.rpmb_card.specs.Card.{CardState}
use Rattle.history_seats.specs.Views.{GateView}
use Rattle.crash_core.specs.DeviceKeys.{directory_key}
use Rattle.crash_core.specs.CoreState.{IsTrusted, Phase}
use Rattle.core_laws.specs.GateParts.{GateHolds, GatePart}
use Rattle.core_laws.specs.GateSteps.{GateSteps, Handed}
use Rattle.core_laws.specs.Finished.{IsAtRest}
use Rattle.core_laws.specs.TamperScenarios.{TamperScenario}
use Rattle.core_laws.specs.Stores.{Store, replay_at}
use Rattle.crash_core.specs.declared.change.DoubtedChange.{DoubtedChange}
use Rattle.store_commit.specs.Gates.{DoubtStands}
use Rattle.store_commit.specs.Holds.{AreHolds}
use Rattle.store_commit.specs.Sides.{Sides}
use Rattle.commit_gate.specs.FinishedPhases.{phase_under}
use Rattle.commit_gate.specs.CoreGates.{IsCardOf, gate_part, pending_of, sealed_in, takes_of}
use Rattle.commit_gate.specs.Readings.{IsTiedUnder}

-- What holds of the gate of a store by itself: its directory and its card stand to each other, and no entry names a file that is held.
pub record IsGateOf (store : Store) (g : Sides) (doubt : Option DoubtedChange) (holds : List (Option ℕ)) (card : CardState) : Type 0 where
  pub tsk : g.dir.tsk ≡ directory_key store.keys
  pub sound : Sound g.file
  pub current : g.dir.root.format ≡ current_format
  pub stands : DoubtStands g doubt
  pub held : AreHolds g.dir.entries holds
  pub told : IsCardOf g card

-- its part of the core machine under a tamper scenario
abbrev pub resting_part : Store → TamperScenario → Sides → Option DoubtedChange → (holds : List (Option ℕ)) → CardState → GateView → GatePart
resting_part store scenario g doubt holds card view =
    gate_part g card (takes_of holds) (pending_of doubt (replay_at store scenario view.all).doubt (sealed_in g card)) None view

-- Steps of the core machine lead from a part of the gate to its part at rest, of which the port tells the card.
pub record StepsTo (store : Store) (scenario : TamperScenario) (handed : Option Handed) (from : GatePart) (g : Sides) (doubt : Option DoubtedChange) (holds : List (Option ℕ)) (view : GateView) : Type 0 where
  pub card : CardState
  pub told : IsCardOf g card
  pub steps : GateSteps (phase_under store scenario) handed from (resting_part store scenario g doubt holds card view)

-- The part has its fact, and no call is under way.
pub record IsResting (phase : Phase) (g : GatePart) : Type 0 where
  pub fact : GateHolds phase g
  pub at_rest : IsAtRest phase g

-- So it is of each gate that is tied to its history. Of a directory's file that is not honest nothing is asked.
abbrev pub RestingGatesHold : Type 0
RestingGatesHold =
    (store : Store) (scenario : TamperScenario) (g : Sides) (doubt : Option DoubtedChange) (holds : List (Option ℕ)) (card : CardState) (view : GateView)
    → IsGateOf store g doubt holds card → IsTiedUnder store scenario view g.dir.entries g.counter doubt → (IsTrusted (phase_under store scenario) directory_file → IsTrue g.file.honest)
    → IsResting (phase_under store scenario) (resting_part store scenario g doubt holds card view)
