-- A call that changes an object's data, once it was answered.
use Rattle.std.specs.Prelude.{Err, Ok, Result, ℕ, ◌≡◌}
use Rattle.call_steps.specs.CallerSessions.{CallerSession}
use Rattle.serial_calls.specs.ChangeCauses.{HasChangeCause}
use Rattle.serial_calls.specs.Renewed.{renewal}
use Rattle.serial_calls.specs.ChangeReplies.{IsDoneOrRefused, IsNotDone}
use Rattle.serial_calls.specs.declared.stage_result.Staged.{Staged}
use Rattle.serial_calls.specs.declared.stage_result.Staged.TheVariants.{Root, Unstaged}
use Rattle.disk_model.specs.State.{FileState}
use Rattle.htree_file.specs.Answers.{FilePassed}
use Rattle.call_steps.specs.GuardedGates.{GuardedGateValue}
use Rattle.call_steps.specs.declared.PlacedReply.{PlacedReply}
use Rattle.node_image.specs.declared.node.RootRef.{RootRef}
use Rattle.call_steps.specs.AnswerServed.{IsServed}
use Rattle.call_steps.specs.ObjectCommits.{IsCommitted}
use Rattle.call_steps.specs.SlotValues.{SlotValue}
use Rattle.rpmb_card.specs.Port.{PortState}
use Rattle.call_steps.specs.declared.Held.{Held}
use Rattle.core_laws.specs.Stores.{Store}
use Rattle.tee_types.specs.declared.call.Call.{Call}
use Rattle.tee_types.specs.declared.reply.Reply.{Reply}
use Rattle.tee_types.specs.declared.reply.Reply.TheVariants.{Done}

-- It was answered as the machine does whatever the object's bytes are. The object's file and the session's entropy, which counted faults from
-- `drew` to `draws`, were let be.
pub record IsMeantOnly {F R E : Type 0} (drew draws : ℕ) (store : Store) (old new : GuardedGateValue F R) (number : ℕ) (from to : FileState) (was now : CallerSession E) (call : Call) (answer : PlacedReply) : Type 0 where
  pub served : IsServed store old new was now number call answer
  pub kind : IsDoneOrRefused answer.reply
  pub file : to ≡ from
  pub undrawn : draws ≡ drew

-- Why the change was not staged was told, and nothing was drawn.
pub record IsToldUnstaged {F R E : Type 0} (store : Store) (old new : GuardedGateValue F R) (number : ℕ) (was now : CallerSession E) (call : Call) (reply : Reply) (answer : PlacedReply) : Type 0 where
  pub served : IsServed store old new was now number call answer
  pub told : answer.reply ≡ reply
  pub undrawn : now.entropy ≡ was.entropy

-- `Reliable` says that the entropy never fails.
module _ {F R : Type 0} (of_file : F → FileState) (of_port : R → PortState) (Reliable : Type 0) (drew draws : ℕ) where
  -- What was staged in the file of that number was brought, and the commit gave the object's entry the reference of it, and that size; or it
  -- was told why nothing was staged.
  abbrev pub AnswersStaged : {E : Type 0} → Store → (old new : GuardedGateValue F R) → (number : ℕ) → (was now : CallerSession E) → Call → Held → (size : ℕ) → Staged → PlacedReply → Type 0
  AnswersStaged store old new number was now call held size (Root root) answer =
      IsCommitted of_file of_port store old new number was now call Done (renewal held root size) Reliable drew draws answer
  AnswersStaged store old new number was now call held size (Unstaged reply) answer = IsToldUnstaged store old new number was now call reply answer

  -- The file of that number was asked, for a change of the held object that would leave that size.
  pub data IsTried {E : Type 0} (store : Store) (old new : GuardedGateValue F R) (number : ℕ) (from to : FileState) (was now : CallerSession E) (call : Call) (held : Held) (size : ℕ) (answer : PlacedReply) : Type 0 where
    -- the reply says why nothing was done
    Failed : IsServed store old new was now number call answer → IsNotDone answer.reply → HasChangeCause from to number Reliable drew draws answer.reply
        → IsTried store old new number from to was now call held size answer
    -- the reply says how the commit ended, which gave the object's entry the reference of what was staged
    Committable : (root : RootRef) → IsCommitted of_file of_port store old new number was now call Done (renewal held root size) Reliable drew draws answer → FilePassed from to
        → IsTried store old new number from to was now call held size answer

  -- In one of these two ways it was answered, with the slot of its object.
  pub data IsChanged {E : Type 0} (store : Store) (old new : GuardedGateValue F R) (from to : SlotValue) (was now : CallerSession E) (call : Call) (held : Held) (size : ℕ) (answer : PlacedReply) : Type 0 where
    Meant : IsMeantOnly drew draws store old new from.number from.file to.file was now call answer → IsChanged store old new from to was now call held size answer
    Tried : IsTried store old new from.number from.file to.file was now call held size answer → IsChanged store old new from to was now call held size answer

  -- Or memory ran out before, and gate and session stay.
  abbrev pub IsChangedOrNot : {E X : Type 0} → Store → (old new : GuardedGateValue F R) → (from to : SlotValue) → (was now : CallerSession E) → Call → Held → (size : ℕ) → Result PlacedReply X → Type 0
  IsChangedOrNot store old new from to was now call held size (Ok answer) = IsChanged store old new from to was now call held size answer
  IsChangedOrNot store old new from to was now call held size (Err none) = (new ≡ old) × (now ≡ was)
