-- An event that changes nothing, as a step of the core machine.
use Rattle.std.specs.Prelude.{◌≡◌, ℕ, true, List, Option, Some, None}
use Rattle.tee_types.specs.declared.call.Call.{Call}
use Rattle.tee_types.specs.declared.reply.Reply.{Reply}
use Rattle.rpmb_card.specs.Card.{CardState}
use Rattle.store_model.specs.declared.event.Mark.TheVariants.{Unchanged}
use Rattle.store_model.specs.Legal.{IsLegalEvent}
use Rattle.store_model.specs.Record.{Tag, file_of}
use Rattle.store_model.specs.ReplayState.{keeps_doubt}
use Rattle.history_seats.specs.Records.{Version}
use Rattle.history_seats.specs.Views.{GateView}
use Rattle.history_seats.specs.Changes.{with_record, call_record}
use Rattle.core_laws.specs.GateSteps.{Handed}
use Rattle.core_laws.specs.TamperScenarios.{TamperScenario}
use Rattle.core_laws.specs.Stores.{Store, replay_at}
use Rattle.crash_core.specs.declared.change.DoubtedChange.{DoubtedChange}
use Rattle.store_commit.specs.Sides.{Sides}
use Rattle.commit_gate.specs.Resting.{IsGateOf, StepsTo, resting_part}

-- while a commit is in doubt, the reply leaves it so
abbrev pub KeepsDoubt : Option DoubtedChange → Reply → Type 0
KeepsDoubt None reply = Unit {0}
KeepsDoubt (Some d) reply = keeps_doubt reply ≡ true

-- It leads from one part at rest to the next.
abbrev pub UnchangedEventsAreSteps : Type 0
UnchangedEventsAreSteps =
    (store : Store) (scenario : TamperScenario) (handed : Option Handed) (g : Sides) (doubt : Option DoubtedChange) (holds : List (Option ℕ)) (card : CardState) (view : GateView)
    (session number : ℕ) (call : Call) (reply : Reply) (tag : Option (Tag Version)) → let r = call_record session number call reply Unchanged tag in
    IsGateOf store g doubt holds card → KeepsDoubt doubt reply → IsLegalEvent scenario.tampered (replay_at store scenario view.all) r.event (file_of r)
    → StepsTo store scenario handed (resting_part store scenario g doubt holds card view) g doubt holds (with_record r view)
