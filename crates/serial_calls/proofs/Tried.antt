-- What came of a change that was tried: its stage failed, or was brought to the gate.
use Rattle.std.proofs.Common.{subst, sym, ℕ, ◌≡◌}
use Rattle.call_steps.specs.CallerSessions.{CallerSession}
use Rattle.serial_calls.proofs.Results.{committed_drawn, served_drawn}
use Rattle.serial_calls.specs.ChangeCauses.{HasChangeCause, HasStageCause}
use Rattle.serial_calls.specs.Changed.{AnswersStaged, Committable, Failed, IsToldUnstaged, IsTried}
use Rattle.serial_calls.specs.Renewed.{renewal}
use Rattle.serial_calls.proofs.Checked.{failure_not_done}
use Rattle.serial_calls.specs.ChangeReplies.{IsFailure, IsNotDone}
use Rattle.serial_calls.specs.ChangeStaging.{DataCall, StagesChange}
use Rattle.serial_calls.specs.declared.stage_result.Staged.{Staged}
use Rattle.serial_calls.specs.declared.stage_result.Staged.TheVariants.{Root, Unstaged}
use Rattle.disk_model.specs.State.{FileState}
use Rattle.history_seats.specs.Records.{Version}
use Rattle.htree_file.specs.Answers.{FilePassed}
use Rattle.call_steps.specs.GuardedGates.{GuardedGateValue}
use Rattle.call_steps.specs.declared.PlacedReply.{PlacedReply}
use Rattle.node_image.specs.declared.node.RootRef.{RootRef}
use Rattle.call_steps.specs.ObjectCommits.{IsCommitted}
use Rattle.call_steps.specs.SlotValues.{SlotValue}
use Rattle.rpmb_card.specs.Port.{PortState}
use Rattle.call_steps.specs.declared.Held.{Held}
use Rattle.core_laws.specs.Stores.{Store}
use Rattle.tee_types.specs.declared.call.Call.{Call}
use Rattle.tee_types.specs.declared.reply.Reply.TheVariants.{Done}
use Rattle.tee_types.specs.declared.reply.Reply.{Reply}

-- The session's entropy drew, and the file changed, before the gate answered.
module _ {F R E : Type 0} (of_file : F → FileState) (of_port : R → PortState) (reliable : E → Type 0) (faults : E → ℕ) (store : Store) (old new : GuardedGateValue F R) (number : ℕ)
    (from mid to : FileState) (let_be : to ≡ mid) (was now : CallerSession E) (entropy : E) (call : Call) (held : Held) (size : ℕ) (answer : PlacedReply) (lasts : reliable was.entropy → reliable entropy) where
  -- it was brought
  committable_tried : (root : RootRef) → FilePassed from mid → faults entropy ≡ faults was.entropy
      → IsCommitted of_file of_port store old new number (record was { entropy = entropy }) now call Done (renewal held root size) (reliable entropy) (faults entropy) (faults now.entropy) answer
      → IsTried of_file of_port (reliable was.entropy) (faults was.entropy) (faults now.entropy) store old new number from to was now call held size answer
  committable_tried root passed undrawn committed =
      Committable root (committed_drawn of_file of_port reliable faults store old new number was now entropy call answer Done (renewal held root size) lasts undrawn committed)
      (subst (FilePassed from) (sym let_be) passed)

  -- it was not staged
  unstaged_tried : (reply : Reply) → IsFailure reply → HasChangeCause from mid number (reliable was.entropy) (faults was.entropy) (faults entropy) reply
      → IsToldUnstaged store old new number (record was { entropy = entropy }) now call reply answer
      → IsTried of_file of_port (reliable was.entropy) (faults was.entropy) (faults now.entropy) store old new number from to was now call held size answer
  unstaged_tried reply failure cause told =
      Failed (served_drawn store old new number was now entropy call answer told.served) (subst IsNotDone (sym told.told) (failure_not_done reply failure))
      (subst (λ (x : FileState × E × Reply). HasChangeCause from x.0 number (reliable was.entropy) (faults was.entropy) (faults x.1) x.2)
      (λ i. (sym let_be i, sym told.undrawn i, sym told.told i)) cause)

  by_staged : (slot : SlotValue) (v : Version) (asked : DataCall) (staged : Staged) → StagesChange store slot v asked staged
      → HasStageCause from mid number (reliable was.entropy) (faults was.entropy) (faults entropy) staged
      → AnswersStaged of_file of_port (reliable entropy) (faults entropy) (faults now.entropy) store old new number (record was { entropy = entropy }) now call held size staged answer
      → IsTried of_file of_port (reliable was.entropy) (faults was.entropy) (faults now.entropy) store old new number from to was now call held size answer
  by_staged slot v asked (Root root) stages cause answered = committable_tried root cause.0 cause.1 answered
  by_staged slot v asked (Unstaged reply) stages cause answered = unstaged_tried reply stages.failure cause answered

  -- the gate and the session stayed until then
  pub steps_tried : (between : GuardedGateValue F R) (seen : CallerSession E) (other : ℕ) → between ≡ old → seen ≡ was → other ≡ number
      → (slot : SlotValue) (v : Version) (asked : DataCall) (staged : Staged) → StagesChange store slot v asked staged
      → HasStageCause from mid number (reliable was.entropy) (faults was.entropy) (faults entropy) staged
      → AnswersStaged of_file of_port (reliable entropy) (faults entropy) (faults now.entropy) store between new other (record seen { entropy = entropy }) now call held size staged answer
      → IsTried of_file of_port (reliable was.entropy) (faults was.entropy) (faults now.entropy) store old new number from to was now call held size answer
  steps_tried between seen other same alike own slot v asked staged stages cause answered =
      by_staged slot v asked staged stages cause
      (subst
      (λ (x : GuardedGateValue F R × CallerSession E × ℕ). AnswersStaged of_file of_port (reliable entropy) (faults entropy) (faults now.entropy) store x.0 new x.2 (record x.1 { entropy = entropy }) now call
      held size staged answer)
      (λ i. (same i, alike i, own i)) answered)
