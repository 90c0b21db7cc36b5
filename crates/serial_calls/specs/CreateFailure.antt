-- A create whose object is not made: why, and how it is told.
use Rattle.std.specs.Prelude.{None, Option, Some, ℕ, ◌≡◌}
use Rattle.call_steps.specs.AnswerServed.{IsServed}
use Rattle.call_steps.specs.CallerSessions.{CallerSession}
use Rattle.serial_calls.specs.ChangeCauses.{AccusesDevice}
use Rattle.serial_calls.specs.declared.create_failure.CreateFailure.{CreateFailure}
use Rattle.serial_calls.specs.declared.create_failure.CreateFailure.TheVariants.{Failed, Spent}
use Rattle.disk_model.specs.State.{FileState}
use Rattle.call_steps.specs.GuardedGates.{GuardedGateValue}
use Rattle.call_steps.specs.declared.PlacedReply.{PlacedReply}
use Rattle.call_steps.specs.declared.SlotFault.{SlotFault}
use Rattle.call_steps.specs.declared.SlotFault.TheVariants.{Failed as FileFault, NoEntropy}
use Rattle.rpmb_card.specs.Protocol.{last_counter}
use Rattle.store_model.specs.Record.{file_at_fault}
use Rattle.core_laws.specs.Stores.{Store}
use Rattle.tee_types.specs.declared.call.Call.{Call}
use Rattle.tee_types.specs.declared.reply.Cause.TheVariants.{Fault}
use Rattle.tee_types.specs.declared.reply.Device.TheVariants.{Entropy, File}
use Rattle.tee_types.specs.declared.reply.Reply.{Reply}
use Rattle.tee_types.specs.declared.reply.Reply.TheVariants.{CounterSpent, NotAvailable}

abbrev pub reply_unmade : CreateFailure → Reply
reply_unmade (Failed cause) = NotAvailable cause
reply_unmade Spent = CounterSpent last_counter

-- why an object is not made in the file of that number, where making it ended so; none where memory ran out
abbrev pub unmade_by : (file : ℕ) → SlotFault → Option CreateFailure
unmade_by file (FileFault count) = Some (Failed (Fault (File file) count))
unmade_by file (NoEntropy count) = Some (Failed (Fault Entropy count))
unmade_by file fault = None

-- it may be told while the card's counter stands there: no other object's file is accused
abbrev pub MayTell : (counter file : ℕ) → CreateFailure → Type 0
MayTell counter file (Failed cause) = (n : ℕ) → file_at_fault cause ≡ Some n → n ≡ file
MayTell counter file Spent = counter ≡ last_counter

-- The create was told why, and the session's state stayed.
pub record IsToldUnmade {F R E : Type 0} (store : Store) (old new : GuardedGateValue F R) (file : ℕ) (was now : CallerSession E) (call : Call) (answer : PlacedReply) : Type 0 where
  pub served : IsServed store old new was now file call answer
  pub state : now.state ≡ was.state

-- The reply carries the count of the device that failed, which is the one that rose; or the card's counter is at its end, and nothing was
-- tried. The file counted faults from `old` to `new`, and the generator from `drew` to `draws`.
abbrev pub UnmadeCause : (counter file : ℕ) → (old new : FileState) → (Reliable : Type 0) → (drew draws : ℕ) → Reply → Type 0
UnmadeCause counter file old new Reliable drew draws (NotAvailable cause) = AccusesDevice old new file Reliable drew draws cause
UnmadeCause counter file old new Reliable drew draws (CounterSpent last) = (last ≡ last_counter) × (counter ≡ last_counter) × (new ≡ old) × (draws ≡ drew)
UnmadeCause counter file old new Reliable drew draws reply = ⊥
