-- What an Info gave of an object, before it is appended.
use Rattle.disk_model.specs.State.{FileState}
use Rattle.history_seats.specs.Records.{Version}
use Rattle.serial_calls.specs.GuardedReads.{GivesVersion}
use Rattle.serial_calls.specs.InfoAnswers.{DescribesObject}
use Rattle.serial_calls.specs.SlotValues.{SlotValue}
use Rattle.store_model.specs.declared.session.Handle.{Handle}
use Rattle.serial_calls.specs.Stores.{Store}
use Rattle.tee_types.specs.declared.reply.Reply.{Reply}

-- The slot gives a version, and the reply is that to an Info of it by that handle.
pub record HasDescribed (store : Store) (slot : SlotValue) (handle : Handle) (reply : Reply) : Type 0 where
  pub version : Version
  pub gives : GivesVersion slot version
  pub was : FileState
  pub describes : DescribesObject store was slot version handle reply
