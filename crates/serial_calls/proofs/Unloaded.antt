-- A change whose object could not be loaded, or that was staged once it was.
use Rattle.std.proofs.Common.{IfOk, Ok, Err, Result, Some, refl, subst, ℕ, ◌≡◌}
use Rattle.serial_calls.proofs.Failures.{undone_failure}
use Rattle.serial_calls.proofs.Results.{passed_stage, told_changes}
use Rattle.serial_calls.specs.ChangeCauses.{HasChangeCause, HasStageCause}
use Rattle.serial_calls.specs.ChangeStaging.{DataCall, StagesChange}
use Rattle.serial_calls.specs.declared.stage_result.Staged.{Staged}
use Rattle.serial_calls.specs.declared.stage_result.Staged.TheVariants.{Unstaged}
use Rattle.disk_model.specs.Calls.{GoesOn}
use Rattle.disk_model.specs.State.{FileState}
use Rattle.history_seats.specs.Records.{Version}
use Rattle.htree_file.specs.Answers.{FilePassed}
use Rattle.call_steps.specs.GuardedSlots.{SlotInvariant}
use Rattle.call_steps.specs.AnswerCauses.{HasToldCause}
use Rattle.call_steps.specs.ReadyEntries.{IsReady}
use Rattle.call_steps.specs.SlotValues.{SlotValue}
use Rattle.core_laws.specs.Stores.{Store}
use Rattle.tee_types.specs.declared.call.Call.TheVariants.{Info}
use Rattle.tee_types.specs.declared.reply.Reply.{Reply}

-- why it could not be loaded is the reply
pub unloaded_changes : (store : Store) (was : FileState) (slot : SlotValue) (v : Version) (asked : DataCall) (reply : Reply) → SlotInvariant store slot → IsReady store was slot v (Some reply)
    → StagesChange store slot v asked (Unstaged reply)
unloaded_changes store was slot v asked reply guarded ready = record {
  guarded = guarded;
  failure = undone_failure store slot v 0 (Info 0) reply (λ partial. partial) (ready.answers 0 (Info 0)) ready.undone;
  answers = λ handle. ready.answers asked.position (asked.call handle);
}

-- which has its cause, and nothing was drawn
pub unloaded_cause : (was now : FileState) (number other : ℕ) → other ≡ number → (Reliable : Type 0) (drew : ℕ) (reply : Reply) → HasToldCause was now other reply
    → HasStageCause was now number Reliable drew drew (Unstaged reply)
unloaded_cause was now number other own Reliable drew reply cause =
    subst (λ (n : ℕ). HasChangeCause was now n Reliable drew drew reply) own (told_changes was now other Reliable drew drew refl reply cause)

-- behind the load the stage has its cause
pub stages_behind : {X : Type 0} (was mid now : FileState) → FilePassed was mid → GoesOn was mid → (number other : ℕ) → other ≡ number → (Reliable : Type 0) (drew draws : ℕ) (result : Result Staged X)
    → IfOk result (HasStageCause mid now other Reliable drew draws) → IfOk result (HasStageCause was now number Reliable drew draws)
stages_behind was mid now passed goes number other own Reliable drew draws (Ok staged) cause =
    passed_stage was mid now passed goes number Reliable drew draws staged (subst (λ (n : ℕ). HasStageCause mid now n Reliable drew draws staged) own cause)
stages_behind was mid now passed goes number other own Reliable drew draws (Err none) cause = tt
