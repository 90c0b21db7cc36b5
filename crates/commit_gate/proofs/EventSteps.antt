-- An event that changes nothing is a step of the core machine.
use Rattle.std.proofs.Common.{◌≡◌, ℕ, Bool, true, false, true≢false, inl, inr, List, Option, Some, None, refl, sym, ap, ◌∙◌, subst}
use Rattle.store_model.specs.declared.event.Mark.TheVariants.{Unchanged}
use Rattle.tee_types.specs.declared.call.Call.{Call}
use Rattle.tee_types.specs.declared.reply.Reply.{Reply}
use Rattle.tee_types.specs.declared.reply.Reply.TheVariants.{Misuse, NotAvailable}
use Rattle.rpmb_card.specs.Card.{CardState}
use Rattle.store_model.specs.Doubt.{Doubt}
use Rattle.store_model.specs.Machine.{MachineState}
use Rattle.store_model.specs.Calls.{state_after}
use Rattle.store_model.specs.Legal.{IsLegalEvent}
use Rattle.store_model.specs.Record.{Tag, file_of}
use Rattle.store_model.specs.ReplayState.{ReplayState, is_undone, keeps_doubt}
use Rattle.history_seats.specs.Records.{Version}
use Rattle.history_seats.specs.Views.{GateView}
use Rattle.history_seats.specs.Changes.{with_record, call_record}
use Rattle.crash_core.specs.CoreState.{Phase}
use Rattle.crash_core.specs.CoreSteps.{Append}
use Rattle.core_laws.specs.GateParts.{GatePart}
use Rattle.core_laws.specs.GateSteps.{GateSteps, Handed}
use Rattle.core_laws.proofs.GateStepLaws.{append_unchanged_is_step, one_step}
use Rattle.core_laws.specs.TamperScenarios.{TamperScenario}
use Rattle.core_laws.specs.Stores.{Store, replay_at}
use Rattle.core_laws.proofs.Answers.{replay_state-snoc}
use Rattle.crash_core.specs.declared.change.DoubtedChange.{DoubtedChange}
use Rattle.store_commit.specs.Sides.{Sides}
use Rattle.commit_gate.specs.FinishedPhases.{phase_under}
use Rattle.commit_gate.specs.CoreGates.{gate_part, pending_of, sealed_in, takes_of}
use Rattle.commit_gate.specs.Resting.{IsGateOf, StepsTo, resting_part}
use Rattle.commit_gate.specs.EventSteps.{UnchangedEventsAreSteps}

-- a reply that keeps a doubt does nothing
undone : (reply : Reply) → keeps_doubt reply ≡ true → is_undone reply ≡ true
undone reply keeps = elim reply as (λ (x : Reply). keeps_doubt x ≡ true → is_undone x ≡ true) [
  | Misuse reason ↦ λ k. refl
  | NotAvailable cause ↦ λ k. refl
  | _ ↦ λ k. absurd (true≢false (sym k))
] keeps

module _ (store : Store) (scenario : TamperScenario) (handed : Option Handed) (g : Sides) (holds : List (Option ℕ)) (card : CardState) (view : GateView)
    (session number : ℕ) (call : Call) (reply : Reply) (tag : Option (Tag Version)) where
  abbrev phase : Phase
  phase = phase_under store scenario

  abbrev here : ReplayState
  here = replay_at store scenario view.all

  abbrev seen : GateView
  seen = with_record (call_record session number call reply Unchanged tag) view

  abbrev Legal : Type 0
  Legal = IsLegalEvent scenario.tampered here (call_record session number call reply Unchanged tag).event (file_of {Root = Version} (call_record session number call reply Unchanged tag))

  calm_steps : IsGateOf store g None holds card → Legal → StepsTo store scenario handed (resting_part store scenario g None holds card view) g None holds seen
  calm_steps gate legal =
      let start : GatePart = resting_part store scenario g None holds card view in
      record {
        card = card;
        told = gate.told;
        steps = one_step phase handed start (Append (call_record session number call reply Unchanged tag)) (resting_part store scenario g None holds card seen)
            (append_unchanged_is_step phase handed start session number call reply tag legal (inl refl));
      }

  -- a reply that keeps the doubt leaves the machine and its doubt as they are
  module _ (keeps : keeps_doubt reply ≡ true) where
    state_stays : elim (is_undone reply) as (λ _. MachineState) [ true ↦ here.state | false ↦ state_after here.state session call ] ≡ here.state
    state_stays = ap (λ (b : Bool). elim b as (λ _. MachineState) [ true ↦ here.state | false ↦ state_after here.state session call ]) (undone reply keeps)

    doubt_stays : (replay_at store scenario seen.all).doubt ≡ here.doubt
    doubt_stays =
        ap (λ (s : ReplayState). s.doubt) (replay_state-snoc store scenario view.all (call_record session number call reply Unchanged tag))
        ∙ ap (λ (b : Bool). elim b as (λ _. Option Doubt) [ true ↦ here.doubt | false ↦ None ]) keeps

    doubted_steps : (d : DoubtedChange) → IsGateOf store g (Some d) holds card → Legal → StepsTo store scenario handed (resting_part store scenario g (Some d) holds card view) g (Some d) holds seen
    doubted_steps d gate legal =
        let start : GatePart = resting_part store scenario g (Some d) holds card view in
        let left : GatePart = gate_part g card (takes_of holds) (pending_of (Some d) here.doubt (sealed_in g card)) None seen in
        let done : GateSteps phase handed start left =
        one_step phase handed start (Append (call_record session number call reply Unchanged tag)) left
        (append_unchanged_is_step phase handed start session number call reply tag legal (inr state_stays)) in
        record {
          card = card;
          told = gate.told;
          steps = subst (GateSteps phase handed start) (λ j. gate_part g card (takes_of holds) (pending_of (Some d) (sym doubt_stays j) (sealed_in g card)) None seen) done;
        }

pub unchanged_events_are_steps : UnchangedEventsAreSteps
unchanged_events_are_steps store scenario handed g None holds card view session number call reply tag gate leaves legal =
    calm_steps store scenario handed g holds card view session number call reply tag gate legal
unchanged_events_are_steps store scenario handed g (Some d) holds card view session number call reply tag gate leaves legal =
    doubted_steps store scenario handed g holds card view session number call reply tag leaves d gate legal
