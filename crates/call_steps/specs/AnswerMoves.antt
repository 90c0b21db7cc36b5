-- An answer that changes nothing, as a step of the core machine.
use Rattle.std.specs.Prelude.{◌≡◌, ℕ, Option}
use Rattle.store_model.specs.declared.event.Mark.TheVariants.{Unchanged}
use Rattle.disk_model.specs.State.{FileState}
use Rattle.rpmb_card.specs.Card.{CardState}
use Rattle.rpmb_card.specs.Port.{PortState}
use Rattle.tee_types.specs.declared.call.Call.{Call}
use Rattle.tee_types.specs.declared.reply.Reply.{Reply}
use Rattle.store_model.specs.Legal.{IsLegalEvent}
use Rattle.store_model.specs.Record.{Tag, file_of}
use Rattle.history_seats.specs.Changes.{with_record, call_record}
use Rattle.history_seats.specs.Records.{Version}
use Rattle.core_laws.specs.GateSteps.{Handed}
use Rattle.core_laws.specs.TamperScenarios.{TamperScenario}
use Rattle.core_laws.specs.Stores.{Store, replay_at}
use Rattle.commit_gate.specs.EventSteps.{KeepsDoubt}
use Rattle.commit_gate.specs.GuardedGates.{GuardedGateValue}
use Rattle.call_steps.specs.ServiceCores.{IsPart, StepsOn}

-- What `answer`, `answer_ruled`, `answer_with` and `close_handle` of a gate behind its lock leave: the event is appended, and of the gate
-- the open handles alone may be others.
pub record AppendsAnswer {F R : Type 0} (old new : GuardedGateValue F R) (session number : ℕ) (call : Call) (reply : Reply) (tag : Option (Tag Version)) : Type 0 where
  pub gate : new.gate ≡ record old.gate { open_handles = new.gate.open_handles }
  pub knows : new.journal.knows ≡ with_record (call_record session number call reply Unchanged tag) old.journal.knows

-- Where the event is legal, and leaves a commit in doubt as it is, that is a step.
abbrev pub AnswersAreSteps : (F R : Type 0) → Type 0
AnswersAreSteps F R =
    (of_file : F → FileState) (of_port : R → PortState) (store : Store) (scenario : TamperScenario) (handed : Option Handed) (old new : GuardedGateValue F R) (card : CardState)
    (session number : ℕ) (call : Call) (reply : Reply) (tag : Option (Tag Version)) → let r = call_record session number call reply Unchanged tag in
    IsPart of_file of_port store old card → AppendsAnswer old new session number call reply tag → KeepsDoubt old.gate.doubt reply
    → IsLegalEvent scenario.tampered (replay_at store scenario old.journal.knows.all) r.event (file_of r) → StepsOn of_file of_port store scenario handed old card new
