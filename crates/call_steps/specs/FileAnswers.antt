-- What an object's file gives to a call on it, or why it gives nothing, and the reply to that.
use Rattle.std.specs.Prelude.{◌≡◌, ℕ, IsTrue}
use Rattle.disk_model.specs.State.{FileState}
use Rattle.tee_types.specs.declared.call.Call.{Call}
use Rattle.tee_types.specs.declared.reply.Cause.TheVariants.{Fault}
use Rattle.tee_types.specs.declared.reply.Device.TheVariants.{Entropy, File}
use Rattle.tee_types.specs.declared.reply.Reply.{Reply}
use Rattle.tee_types.specs.declared.reply.Reply.TheVariants.{Corrupt, CounterSpent, NotAvailable}
use Rattle.history_seats.specs.Records.{Version}
use Rattle.rpmb_card.specs.Protocol.{last_counter}
use Rattle.core_laws.specs.Masked.{told_taints}
use Rattle.core_laws.specs.Stores.{Store}
use Rattle.commit_gate.specs.ReplyLaws.{Answers, IsToldBy}
use Rattle.call_steps.specs.Undrawn.{IsUndrawn}

-- The reply to a call, at that position, on the object of a version in the file of that number.
pub data IsFileAnswer (store : Store) (file : FileState) (number : ℕ) (v : Version) (position : ℕ) (call : Call) (reply : Reply) : Type 0 where
  -- the file gave what the reply tells; one that is honest now gives what the version's object answers
  Tells : IsToldBy store (told_taints file) v position call reply → (IsTrue file.honest → Answers v.object position call reply) → IsFileAnswer store file number v position call reply
  -- what it gave was refused
  Refuses : reply ≡ Corrupt → (IsTrue file.honest → Answers v.object position call reply) → IsFileAnswer store file number v position call reply
  -- it failed
  Fails : (count : ℕ) → reply ≡ NotAvailable (Fault (File number) count) → IsFileAnswer store file number v position call reply
  -- it gave what a change has to know, and a draw failed then
  Undrawn : (count : ℕ) → reply ≡ NotAvailable (Fault Entropy count) → IsUndrawn store file v position call → IsFileAnswer store file number v position call reply
  -- it gave what a change has to know, and the change was not tried, since no commit can follow
  Spent : reply ≡ CounterSpent last_counter → IsUndrawn store file v position call → IsFileAnswer store file number v position call reply
