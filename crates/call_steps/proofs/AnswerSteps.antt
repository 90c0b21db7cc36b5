-- An answer is an event that changes nothing.
use Rattle.std.proofs.Common.{sym, subst}
use Rattle.history_seats.specs.Views.{GateView}
use Rattle.commit_gate.specs.Gates.{GateValue, gate_sides}
use Rattle.commit_gate.specs.Resting.{StepsTo}
use Rattle.commit_gate.proofs.EventSteps.{unchanged_events_are_steps}
use Rattle.call_steps.specs.AnswerMoves.{AnswersAreSteps}
use Rattle.call_steps.specs.ServiceCores.{part_under}

pub answers_are_steps : (F R : Type 0) → AnswersAreSteps F R
answers_are_steps F R of_file of_port store scenario handed old new card session number call reply tag p a keeps legal =
    subst (λ (x : GateValue F R × GateView). StepsTo store scenario handed (part_under of_file of_port store scenario old card) (gate_sides of_file of_port x.0) x.0.doubt x.0.holds x.1)
    (λ i. (sym a.gate i, sym a.knows i))
    (unchanged_events_are_steps store scenario handed (gate_sides of_file of_port old.gate) old.gate.doubt old.gate.holds card old.journal.knows session number call reply tag p.gate keeps legal)
