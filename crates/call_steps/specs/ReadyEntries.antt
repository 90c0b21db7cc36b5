-- An entry's object that is ready for a call, or the reply to the call where it is not.
use Rattle.std.specs.Prelude.{◌≡◌, ℕ, true, Option, Some, None}
use Rattle.disk_model.specs.State.{FileState}
use Rattle.htree_file.specs.Answers.{FilePassed}
use Rattle.tee_types.specs.declared.call.Call.{Call}
use Rattle.tee_types.specs.declared.reply.Reply.{Reply}
use Rattle.dir_records.specs.declared.entry.DirEntry.{DirEntry}
use Rattle.store_model.specs.ReplayState.{is_undone}
use Rattle.history_seats.specs.Records.{Version}
use Rattle.history_seats.specs.Views.{GateView}
use Rattle.core_laws.specs.Stores.{Store}
use Rattle.object_slots.specs.SlotValues.{SlotValue}
use Rattle.call_steps.specs.AnswerCauses.{HasToldCause}
use Rattle.call_steps.specs.FileAnswers.{IsFileAnswer}
use Rattle.call_steps.specs.ObjectLoading.{HoldsVersion}
use Rattle.call_steps.specs.SlotCatchUp.{IsAtEntry}

-- The version's object could not be loaded: so any call on it is answered.
pub record IsUnloaded (store : Store) (was : FileState) (slot : SlotValue) (v : Version) (reply : Reply) : Type 0 where
  pub answers : (position : ℕ) (call : Call) → IsFileAnswer store slot.file slot.number v position call reply
  pub undone : is_undone reply ≡ true
  pub cause : HasToldCause was slot.file slot.number reply

-- The version's object is loaded and the file did not fail, or that is the reply.
abbrev pub IsReady : Store → (was : FileState) → SlotValue → Version → Option Reply → Type 0
IsReady store was slot v None = HoldsVersion store.keys slot v × FilePassed was slot.file
IsReady store was slot v (Some reply) = IsUnloaded store was slot v reply

-- The same of an entry's object, as its slot now is.
pub record IsReadyEntry (store : Store) (gate : GateView) (was : FileState) (slot : SlotValue) (e : DirEntry) (reply : Option Reply) : Type 0 where
  pub version : Version
  pub at : IsAtEntry gate slot e version
  pub ready : IsReady store was slot version reply
