-- What an Info answers, by what is loaded of the object.
use Rattle.std.specs.Prelude.{ℕ}
use Rattle.disk_model.specs.State.{FileState}
use Rattle.tee_types.specs.declared.call.Call.TheVariants.{Info}
use Rattle.tee_types.specs.declared.reply.Reply.{Reply}
use Rattle.tee_types.specs.declared.reply.Reply.TheVariants.{Corrupt, NotAvailable}
use Rattle.store_model.specs.declared.session.Handle.{Handle}
use Rattle.dir_records.specs.declared.entry.DirEntry.{DirEntry}
use Rattle.history_seats.specs.Records.{Version}
use Rattle.history_seats.specs.Views.{GateView}
use Rattle.core_laws.specs.ReadLaws.{SaysHandle}
use Rattle.core_laws.specs.Stores.{Store}
use Rattle.object_slots.specs.SlotValues.{SlotValue}
use Rattle.call_steps.specs.AnswerCauses.{HasToldCause}
use Rattle.call_steps.specs.FileAnswers.{IsFileAnswer}
use Rattle.call_steps.specs.SlotCatchUp.{IsAtEntry}

-- the reply says that size, and the position and the flags of the handle, if it tells of the object
abbrev pub SaysIfTold : (size : ℕ) → Handle → Reply → Type 0
SaysIfTold size handle Corrupt = Unit {0}
SaysIfTold size handle (NotAvailable cause) = Unit {0}
SaysIfTold size handle reply = SaysHandle size handle reply

-- The reply to an Info by a handle on the version's object, which is loaded.
pub record DescribesVersion (store : Store) (slot : SlotValue) (v : Version) (handle : Handle) (reply : Reply) : Type 0 where
  pub answers : (number : ℕ) → IsFileAnswer store slot.file slot.number v 0 (Info number) reply
  pub says : SaysHandle v.size handle reply

-- The reply to an Info by a handle on the version's object, or why it could not be loaded.
pub record DescribesObject (store : Store) (was : FileState) (slot : SlotValue) (v : Version) (handle : Handle) (reply : Reply) : Type 0 where
  pub answers : (number : ℕ) → IsFileAnswer store slot.file slot.number v 0 (Info number) reply
  pub says : SaysIfTold v.size handle reply
  pub cause : HasToldCause was slot.file slot.number reply

-- The same of an entry's object, as its slot now is.
pub record DescribesEntry (store : Store) (gate : GateView) (was : FileState) (slot : SlotValue) (e : DirEntry) (handle : Handle) (reply : Reply) : Type 0 where
  pub version : Version
  pub at : IsAtEntry gate slot e version
  pub describes : DescribesObject store was slot version handle reply
