-- What a change answered, over the calls of which it is made.
use Rattle.std.proofs.Common.{subst, ℕ, ◌∙◌, ◌≡◌}
use Rattle.call_steps.specs.CallerSessions.{CallerSession}
use Rattle.serial_calls.specs.ChangeCauses.{HasChangeCause, HasStageCause}
use Rattle.serial_calls.specs.declared.stage_result.Staged.{Staged}
use Rattle.serial_calls.specs.declared.stage_result.Staged.TheVariants.{Root, Unstaged}
use Rattle.disk_model.specs.Calls.{GoesOn}
use Rattle.disk_model.specs.Faults.{Rose}
use Rattle.disk_model.specs.State.{FileState}
use Rattle.htree_file.specs.Answers.{FileFailed, FilePassed}
use Rattle.call_steps.specs.GuardedGates.{GuardedGateValue}
use Rattle.call_steps.specs.declared.PlacedReply.{PlacedReply}
use Rattle.call_steps.specs.AnswerCauses.{HasToldCause}
use Rattle.call_steps.specs.AnswerServed.{IsServed}
use Rattle.call_steps.specs.ObjectCommits.{CommitsGate, IsCommitted}
use Rattle.rpmb_card.specs.Port.{PortState}
use Rattle.call_steps.specs.Causes.{EndCause, counts}
use Rattle.call_steps.specs.Counts.{EndCounts}
use Rattle.call_steps.specs.GateEnds.{mark_told}
use Rattle.call_steps.specs.declared.CommitEnd.{CommitEnd}
use Rattle.call_steps.specs.declared.EntryChange.{EntryChange}
use Rattle.store_model.specs.declared.event.Mark.TheVariants.{Unchanged}
use Rattle.core_laws.specs.Stores.{Store}
use Rattle.tee_types.specs.declared.call.Call.{Call}
use Rattle.tee_types.specs.declared.reply.Cause.TheVariants.{Fault}
use Rattle.tee_types.specs.declared.reply.Device.TheVariants.{Entropy, File}
use Rattle.tee_types.specs.declared.reply.Reply.TheVariants.{NotAvailable}
use Rattle.tee_types.specs.declared.reply.Reply.{Reply}
use Rattle.call_steps.proofs.GoingOn.{appends-drawn}

-- Where the object could not be loaded, nothing was drawn.
pub told_changes : (old new : FileState) (number : ℕ) (Reliable : Type 0) (drew draws : ℕ) → draws ≡ drew → (reply : Reply) → HasToldCause old new number reply
    → HasChangeCause old new number Reliable drew draws reply
told_changes old new number Reliable drew draws undrawn (NotAvailable (Fault (File n) count)) cause = (cause.0, cause.1, undrawn)
told_changes old new number Reliable drew draws undrawn (NotAvailable other) cause = absurd cause
told_changes old new number Reliable drew draws undrawn reply cause = (cause, undrawn)

-- Behind calls of the file that passed.
module _ (a b c : FileState) (passed : FilePassed a b) (goes : GoesOn a b) where
  passed_passed : FilePassed b c → FilePassed a c
  passed_passed then_ = record { faults = then_.faults ∙ passed.faults; starved = then_.starved ∙ passed.starved }

  passed_failed : (count : ℕ) → FileFailed b c count → FileFailed a c count
  passed_failed count failed = record {
    rose = subst (λ (n : ℕ). Rose n c.faults) passed.faults failed.rose;
    carried = failed.carried;
    calm = λ calm. subst (λ (n : ℕ). Rose n c.starved) passed.starved (failed.calm (goes.calm calm));
  }

  passed_cause : (number : ℕ) (Reliable : Type 0) (drew draws : ℕ) (reply : Reply) → HasChangeCause b c number Reliable drew draws reply → HasChangeCause a c number Reliable drew draws reply
  passed_cause number Reliable drew draws (NotAvailable (Fault (File n) count)) cause = (cause.0, passed_failed count cause.1, cause.2)
  passed_cause number Reliable drew draws (NotAvailable (Fault Entropy count)) cause = (passed_passed cause.0, cause.1, cause.2, cause.3)
  passed_cause number Reliable drew draws (NotAvailable other) cause = absurd cause
  passed_cause number Reliable drew draws reply cause = (passed_passed cause.0, cause.1)

  pub passed_stage : (number : ℕ) (Reliable : Type 0) (drew draws : ℕ) (staged : Staged) → HasStageCause b c number Reliable drew draws staged → HasStageCause a c number Reliable drew draws staged
  passed_stage number Reliable drew draws (Root root) cause = (passed_passed cause.0, cause.1)
  passed_stage number Reliable drew draws (Unstaged reply) cause = passed_cause number Reliable drew draws reply cause

-- A call that was served, of a session whose entropy drew before.
module _ {F R E : Type 0} (store : Store) (old new : GuardedGateValue F R) (number : ℕ) (was now : CallerSession E) (entropy : E) (call : Call) (answer : PlacedReply) where
  pub served_drawn : IsServed store old new (record was { entropy = entropy }) now number call answer → IsServed store old new was now number call answer
  served_drawn x = record {
    place = x.place;
    appends = appends-drawn store was now entropy call answer Unchanged x.appends;
    last = x.last;
    event = x.event;
    tagged = x.tagged;
    knows = x.knows;
    spare = x.spare;
    gate = x.gate;
    notes = x.notes;
    closing = x.closing;
  }

-- A commit of such a session.
module _ {F R E : Type 0} (of_file : F → FileState) (of_port : R → PortState) (reliable : E → Type 0) (faults : E → ℕ) (store : Store) (old new : GuardedGateValue F R) (number : ℕ) (was now : CallerSession E) (entropy : E)
    (call : Call) (answer : PlacedReply) where
  module _ (own : Reply) (change : EntryChange) (lasts : reliable was.entropy → reliable entropy) (same : faults entropy ≡ faults was.entropy) where
    commits_drawn : (end : CommitEnd) → CommitsGate of_file of_port old new number was.number call own change end (reliable entropy) (faults entropy) (faults now.entropy)
        → CommitsGate of_file of_port old new number was.number call own change end (reliable was.entropy) (faults was.entropy) (faults now.entropy)
    commits_drawn end x = record {
      leaves = x.leaves;
      doubt = x.doubt;
      closing = x.closing;
      holds = x.holds;
      open_handles = x.open_handles;
      room = x.room;
      throughout = x.throughout;
      steps = x.steps;
      is_end = x.is_end;
      spent = x.spent;
      drawn = λ is. x.drawn (lasts is);
      untouched = x.untouched;
      calm = x.calm;
      heard = x.heard;
      counts_are =
          subst (λ (n : ℕ). EndCounts (counts (of_file old.gate.dir.file) (of_port old.gate.host.port) n) (counts (of_file new.gate.dir.file) (of_port new.gate.host.port) (faults now.entropy)) end) same
          x.counts_are;
      cause =
          subst
          (λ (n : ℕ). EndCause old.gate.host.key old.gate.counter (counts (of_file old.gate.dir.file) (of_port old.gate.host.port) n)
          (counts (of_file new.gate.dir.file) (of_port new.gate.host.port) (faults now.entropy)) end)
          same x.cause;
      doubtful = x.doubtful;
      arms = x.arms;
    }

    pub committed_drawn : IsCommitted of_file of_port store old new number (record was { entropy = entropy }) now call own change (reliable entropy) (faults entropy) (faults now.entropy) answer
        → IsCommitted of_file of_port store old new number was now call own change (reliable was.entropy) (faults was.entropy) (faults now.entropy) answer
    committed_drawn x = record {
      end = x.end;
      reply = x.reply;
      place = x.place;
      appends = appends-drawn store was now entropy call answer (mark_told x.end) x.appends;
      last = x.last;
      event = x.event;
      tagged = x.tagged;
      knows = x.knows;
      spare = x.spare;
      gate = commits_drawn x.end x.gate;
    }
