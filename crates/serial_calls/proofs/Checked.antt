-- What is answered to a change of an object's data where the blocks that it needs were only read.
use Rattle.std.proofs.Common.{◌≡◌, ℕ, None, Some, Result, Ok, Err, IfOk, IsTrue, refl, sym, subst, true}
use Rattle.call_steps.specs.AnswerCauses.{HasToldCause}
use Rattle.call_steps.specs.FileAnswers.{Fails, IsFileAnswer, Refuses, Spent}
use Rattle.call_steps.specs.GuardedReads.{GivesVersion}
use Rattle.call_steps.specs.GuardedSlots.{SlotInvariant}
use Rattle.call_steps.specs.ObjectLoading.{HoldsVersion}
use Rattle.call_steps.specs.ReadyEntries.{IsReady}
use Rattle.call_steps.specs.ServableReplies.{TellsCounter}
use Rattle.call_steps.specs.SlotChecks.{ChecksVersion}
use Rattle.call_steps.specs.SlotFaults.{HasCause}
use Rattle.call_steps.specs.SlotValues.{IsLive, SlotValue}
use Rattle.call_steps.specs.declared.SlotFault.TheVariants.{Corrupt as IsCorrupt, Failed, NoEntropy, NoMemory}
use Rattle.call_steps.specs.declared.SlotFault.{SlotFault}
use Rattle.call_steps.specs.PlainReplies.{HasNoBytes}
use Rattle.call_steps.proofs.UndoneAnswers.{undone-bare}
use Rattle.node_image.specs.declared.node.RootRef.{RootRef}
use Rattle.serial_calls.specs.declared.stage_result.Staged.TheVariants.{Root, Unstaged}
use Rattle.call_steps.proofs.AnswerCauses.{passed-told, told-cause, untold-passed}
use Rattle.call_steps.specs.ReplyLaws.{Answers}
use Rattle.serial_calls.proofs.Failures.{undone_failure}
use Rattle.core_laws.proofs.Mending.{none_some, some_same}
use Rattle.core_laws.specs.Masked.{told_taints}
use Rattle.core_laws.specs.Stores.{Store}
use Rattle.disk_model.specs.Calls.{GoesOn}
use Rattle.disk_model.specs.State.{FileState}
use Rattle.history_seats.specs.Records.{Version}
use Rattle.htree_file.specs.Answers.{FilePassed}
use Rattle.rpmb_card.specs.Protocol.{last_counter}
use Rattle.serial_calls.proofs.ChangeStages.{held}
use Rattle.serial_calls.proofs.Unstaged.{IsChangeBy, sound}
use Rattle.serial_calls.specs.ChangeChecks.{ChecksChange}
use Rattle.serial_calls.specs.ChangeReplies.{IsFailure, IsNotDone, reply_of_check}
use Rattle.serial_calls.specs.ChangeStaging.{DataCall, staged_of}
use Rattle.store_model.specs.ReplayState.{is_undone}
use Rattle.tee_types.specs.declared.call.Call.TheVariants.{Info}
use Rattle.tee_types.specs.declared.reply.Cause.TheVariants.{Fault}
use Rattle.tee_types.specs.declared.reply.Device.TheVariants.{File}
use Rattle.tee_types.specs.declared.reply.Reply.TheVariants.{Corrupt, CounterSpent, NotAvailable}
use Rattle.tee_types.specs.declared.reply.Reply.{Reply}

-- a failure is not done
pub failure_not_done : (reply : Reply) → IsFailure reply → IsNotDone reply
failure_not_done Corrupt is = tt
failure_not_done (NotAvailable cause) is = tt
failure_not_done reply is = absurd is

pub not_done_undone : (reply : Reply) → IsNotDone reply → is_undone reply ≡ true
not_done_undone Corrupt is = refl
not_done_undone (NotAvailable cause) is = refl
not_done_undone (CounterSpent last) is = refl
not_done_undone reply is = absurd is

-- it tells nothing of the counter
pub failure_counter : (counter : ℕ) (reply : Reply) → IsFailure reply → TellsCounter counter reply
failure_counter counter Corrupt is = tt
failure_counter counter (NotAvailable cause) is = tt
failure_counter counter reply is = absurd is

-- what may be told at a spent counter
pub spent_counter : (counter : ℕ) → counter ≡ last_counter → (reply : Reply) → TellsCounter counter reply
spent_counter counter spent (CounterSpent last) = spent
spent_counter counter spent reply = tt

-- The slot held the version's object.
module _ (store : Store) (old new : SlotValue) (asked : DataCall) (v : Version) (guarded : SlotInvariant store old) (on : IsLive old.holds) (gives : GivesVersion old v)
    (honest : IsTrue new.file.honest → IsTrue old.file.honest) where
  abbrev holds : HoldsVersion store.keys old v
  holds = held store old new asked v guarded on gives honest

  answers : (handle : ℕ) → IsChangeBy store old new v holds honest (asked.change v.size) asked.position (asked.call handle) → {A : Type 0} → (given : Result A SlotFault) (reply : Reply)
      → Some reply ≡ reply_of_check new.number given → ChecksVersion store new.file v (asked.change v.size) given → IsFileAnswer store new.file new.number v asked.position (asked.call handle) reply
  answers handle by (Ok done) reply is checks =
      Spent (some_same reply (CounterSpent last_counter) is) (record {
        changes = by.partial;
        gave = by.asks store.keys (told_taints new.file) checks.gave;
        spared = λ fine. let o = sound store old new v holds honest fine in by.spared o (checks.corrupt fine o.contents o.object);
      })
  answers handle by (Err IsCorrupt) reply is checks =
      let same : reply ≡ Corrupt = some_same reply Corrupt is in
      Refuses same (λ fine.
      let o = sound store old new v holds honest fine in
      subst (Answers v.object asked.position (asked.call handle)) (sym same) (by.corrupt o (checks.corrupt fine o.contents o.object)))
  answers handle by (Err (Failed count)) reply is checks = Fails count (some_same reply (NotAvailable (Fault (File new.number) count)) is)
  answers handle by (Err (NoEntropy count)) reply is checks = absurd (none_some reply (sym is))
  answers handle by (Err NoMemory) reply is checks = absurd (none_some reply (sym is))

  kind : {A : Type 0} → (given : Result A SlotFault) (reply : Reply) → Some reply ≡ reply_of_check new.number given → IsNotDone reply
  kind (Ok done) reply is = subst IsNotDone (sym (some_same reply (CounterSpent last_counter) is)) tt
  kind (Err IsCorrupt) reply is = subst IsNotDone (sym (some_same reply Corrupt is)) tt
  kind (Err (Failed count)) reply is = subst IsNotDone (sym (some_same reply (NotAvailable (Fault (File new.number) count)) is)) tt
  kind (Err (NoEntropy count)) reply is = absurd (none_some reply (sym is))
  kind (Err NoMemory) reply is = absurd (none_some reply (sym is))

  cause : {A : Type 0} → (given : Result A SlotFault) (reply : Reply) → Some reply ≡ reply_of_check new.number given → HasCause old.file new.file given → HasToldCause old.file new.file new.number reply
  cause (Ok done) reply is passed = subst (HasToldCause old.file new.file new.number) (sym (some_same reply (CounterSpent last_counter) is)) passed
  cause (Err fault) reply is failed = told-cause old.file new.file new.number fault reply is failed

  pub checked_change : {A : Type 0} → (given : Result A SlotFault) (reply : Reply) → Some reply ≡ reply_of_check new.number given → ChecksVersion store new.file v (asked.change v.size) given
      → HasCause old.file new.file given → ((handle : ℕ) → IsChangeBy store old new v holds honest (asked.change v.size) asked.position (asked.call handle)) → ChecksChange store old.file new v asked reply
  checked_change given reply is checks caused by = record {
    kind = kind given reply is;
    answers = λ handle. answers handle (by handle) given reply is checks;
    cause = cause given reply is caused;
  }

-- where it is not answered no call of the file failed
pub unchecked_passed : {A : Type 0} → (old new : FileState) (number : ℕ) (given : Result A SlotFault) → None ≡ reply_of_check number given → HasCause old new given → FilePassed old new
unchecked_passed old new number (Ok done) is cause = absurd (none_some (CounterSpent last_counter) is)
unchecked_passed old new number (Err fault) is cause = untold-passed old new number fault is cause

-- the object could not be loaded
pub unloaded_checks : (store : Store) (was : FileState) (slot : SlotValue) (v : Version) (asked : DataCall) (reply : Reply) → IsReady store was slot v (Some reply) → ChecksChange store was slot v asked reply
unloaded_checks store was slot v asked reply ready = record {
  kind = failure_not_done reply (undone_failure store slot v 0 (Info 0) reply (λ partial. partial) (ready.answers 0 (Info 0)) ready.undone);
  answers = λ handle. ready.answers asked.position (asked.call handle);
  cause = ready.cause;
}

-- behind the load
pub checks_behind : {X : Type 0} (store : Store) (was mid : FileState) (slot : SlotValue) (v : Version) (asked : DataCall) → FilePassed was mid → GoesOn was mid → (result : Result Reply X)
    → IfOk result (ChecksChange store mid slot v asked) → IfOk result (ChecksChange store was slot v asked)
checks_behind store was mid slot v asked passed goes (Ok reply) checks = record {
  kind = checks.kind;
  answers = checks.answers;
  cause = passed-told was mid slot.file passed goes slot.number reply checks.cause;
}
checks_behind store was mid slot v asked passed goes (Err none) checks = tt

pub not_done_bare : (reply : Reply) → IsNotDone reply → HasNoBytes reply
not_done_bare reply kind = undone-bare reply (not_done_undone reply kind)

-- where what was staged is not told no call of the file failed
pub unstaged_passed : (old new : FileState) (number : ℕ) (given : Result RootRef SlotFault) → None ≡ staged_of number given → HasCause old new given → FilePassed old new
unstaged_passed old new number (Ok root) is cause = absurd (none_some (Root root) is)
unstaged_passed old new number (Err IsCorrupt) is cause = absurd (none_some (Unstaged Corrupt) is)
unstaged_passed old new number (Err (Failed count)) is cause = absurd (none_some (Unstaged (NotAvailable (Fault (File number) count))) is)
unstaged_passed old new number (Err (NoEntropy count)) is cause = cause
unstaged_passed old new number (Err NoMemory) is cause = cause
