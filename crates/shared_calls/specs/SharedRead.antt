-- What a Read gave of an object, before it is appended.
use Rattle.std.specs.Prelude.{ℕ}
use Rattle.disk_model.specs.State.{FileState}
use Rattle.history_seats.specs.Records.{Version}
use Rattle.serial_calls.specs.GuardedReads.{GivesVersion}
use Rattle.serial_calls.specs.ReadAnswers.{ReadsAnswer}
use Rattle.serial_calls.specs.SlotValues.{SlotValue}
use Rattle.serial_calls.specs.Stores.{Store}
use Rattle.tee_types.specs.declared.reply.Reply.{Reply}

-- The slot gives a version, and the reply is that to a Read of at most so many bytes of it, from a place on.
pub record HasRead (store : Store) (slot : SlotValue) (at count : ℕ) (reply : Reply) : Type 0 where
  pub version : Version
  pub gives : GivesVersion slot version
  pub was : FileState
  pub reads : ReadsAnswer store was slot version at count reply
