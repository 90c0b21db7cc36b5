-- What a Read answers, by what the object's file gave.
use Rattle.std.specs.Prelude.{◌+◌, ◌<◌, ◌^◌, ℕ, length}
use Rattle.disk_model.specs.State.{FileState}
use Rattle.tee_types.specs.declared.call.Call.TheVariants.{Read}
use Rattle.tee_types.specs.declared.reply.Reply.{Reply}
use Rattle.tee_types.specs.declared.reply.Reply.TheVariants.{Content}
use Rattle.store_model.specs.declared.session.Handle.{Handle}
use Rattle.store_model.specs.Machine.{Session, with_handle}
use Rattle.dir_records.specs.declared.entry.DirEntry.{DirEntry}
use Rattle.history_seats.specs.Records.{Version}
use Rattle.history_seats.specs.Views.{GateView}
use Rattle.core_laws.specs.Stores.{Store}
use Rattle.object_slots.specs.SlotValues.{SlotValue}
use Rattle.call_steps.specs.AnswerCauses.{HasToldCause}
use Rattle.call_steps.specs.FileAnswers.{IsFileAnswer}
use Rattle.call_steps.specs.SlotCatchUp.{IsAtEntry}

-- the bytes that a reply gives from a place on end at a position
abbrev pub EndsAtPosition : (at : ℕ) → Reply → Type 0
EndsAtPosition at (Content bytes) = at + length bytes < 2 ^ 32
EndsAtPosition at reply = Unit {0}

-- The reply to a Read of at most so many bytes of the version's object, from a place on.
pub record ReadsAnswer (store : Store) (was : FileState) (slot : SlotValue) (v : Version) (at count : ℕ) (reply : Reply) : Type 0 where
  pub answers : (handle : ℕ) → IsFileAnswer store slot.file slot.number v at (Read handle count) reply
  pub cause : HasToldCause was slot.file slot.number reply
  pub ends : EndsAtPosition at reply

-- The same of an entry's object, as its slot now is.
pub record ReadsEntry (store : Store) (gate : GateView) (was : FileState) (slot : SlotValue) (e : DirEntry) (position count : ℕ) (reply : Reply) : Type 0 where
  pub version : Version
  pub at : IsAtEntry gate slot e version
  pub reads : ReadsAnswer store was slot version position count reply

-- the position advances by what is given
abbrev pub read_session : Session → (number : ℕ) → Handle → Reply → Session
read_session s number handle (Content bytes) = with_handle s number (record handle { position = handle.position + length bytes })
read_session s number handle reply = s
