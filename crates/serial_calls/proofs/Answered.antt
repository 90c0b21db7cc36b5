-- A call that was answered whatever the object's bytes are.
use Rattle.std.proofs.Common.{ap, subst, sym, ℕ, ◌≡◌}
use Rattle.call_steps.specs.CallerSessions.{CallerSession}
use Rattle.serial_calls.specs.Changed.{IsChanged, Meant}
use Rattle.serial_calls.specs.ChangeReplies.{IsDoneOrRefused}
use Rattle.disk_model.specs.State.{FileState}
use Rattle.call_steps.specs.GuardedGates.{GuardedGateValue}
use Rattle.call_steps.specs.declared.PlacedReply.{PlacedReply}
use Rattle.call_steps.specs.AnswerServed.{IsServed}
use Rattle.call_steps.specs.SlotValues.{SlotValue}
use Rattle.rpmb_card.specs.Port.{PortState}
use Rattle.call_steps.specs.declared.Held.{Held}
use Rattle.core_laws.specs.Stores.{Store}
use Rattle.tee_types.specs.declared.call.Call.{Call}
use Rattle.tee_types.specs.declared.reply.Reply.{Reply}

module _ {F R E : Type 0} (of_file : F → FileState) (of_port : R → PortState) (reliable : E → Type 0) (faults : E → ℕ) (store : Store) (old new : GuardedGateValue F R) (from to : SlotValue) (was now : CallerSession E)
    (call : Call) (held : Held) (size : ℕ) (answer : PlacedReply) (drawn : now.entropy ≡ was.entropy) (reply : Reply) (told : answer.reply ≡ reply) where
  pub meant_changed : IsServed store old new was now from.number call answer → IsDoneOrRefused reply → to.file ≡ from.file
      → IsChanged of_file of_port (reliable was.entropy) (faults was.entropy) (faults now.entropy) store old new from to was now call held size answer
  meant_changed served kind let_be =
      Meant (record { served = served; kind = subst IsDoneOrRefused (sym told) kind; file = let_be; undrawn = ap faults drawn })
