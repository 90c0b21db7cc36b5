-- Objects as the directory tells of them.
use Rattle.std.specs.Prelude.{◌≡◌, ℕ, true, false, List, [], ◌∷◌, length, Option, Some}
use Rattle.tee_types.specs.declared.call.Call.{Call}
use Rattle.tee_types.specs.declared.call.Call.TheVariants.{Open}
use Rattle.tee_types.specs.declared.flags.Flags.{Flags}
use Rattle.tee_types.specs.declared.reply.Reply.{Reply}
use Rattle.tee_types.specs.declared.reply.Reply.TheVariants.{Done, Info, Corrupt}
use Rattle.tee_types.specs.Rights.{has}
use Rattle.store_model.specs.declared.session.Handle.{Handle}
use Rattle.store_model.specs.declared.name.ObjectName.{ObjectName}
use Rattle.store_model.specs.Object.{Object, Contents, ObjectMap, object_at, size_of, is_damaged}
use Rattle.store_model.specs.Machine.{Session, MachineState, Outcome, handle_at, name_in, unless_refused, refuse, of_sound, by_right}
use Rattle.store_model.specs.Handles.{open_handle}
use Rattle.store_model.specs.Files.{is_misuse}
use Rattle.store_model.specs.Calls.{outcome_of, reply_of}
use Rattle.dir_records.specs.declared.entry.DirEntry.{DirEntry}
use Rattle.call_rules.specs.declared.decision.OpenObject.{OpenObject}
use Rattle.dir_index.specs.EntryNames.{IsEntryNamed}

-- An object of that name and of that size is there, sound or damaged.
pub record HasObject (objects : ObjectMap) (name : ObjectName) (size : ℕ) : Type 0 where
  pub object : Object
  pub at : object_at objects name ≡ Some object
  pub sized : size_of object ≡ size

-- a new handle on the object of that name, where that is sound
abbrev pub open_sound : MachineState → ℕ → ObjectName → Flags → Outcome
open_sound s i name flags = unless_refused ((is_damaged (object_at s.objects name), Corrupt) ∷ []) s (open_handle s i name flags)

-- The machine opens the object of that name where it is sound; an object of that size is there. The call is no misuse.
pub record IsOpened (s : MachineState) (i : ℕ) (id : List ℕ) (flags : Flags) (size : ℕ) : Type 0 where
  pub there : HasObject s.objects (name_in s i id) size
  pub outcome : outcome_of s i (Open id flags) ≡ open_sound s i (name_in s i id) flags
  pub proper : is_misuse (reply_of s i (Open id flags)) ≡ false

-- the session's live handle of that number, and the entry of its object
pub record IsOpenObject (entries : List (Option DirEntry)) (session : Session) (number : ℕ) (found : OpenObject) : Type 0 where
  pub live : handle_at session number ≡ Some found.handle
  pub named : IsEntryNamed entries (found.handle).name (Some found.held)

-- the handle has that right
pub record IsRightful (entries : List (Option DirEntry)) (session : Session) (number right : ℕ) (found : OpenObject) : Type 0 where
  pub opened : IsOpenObject entries session number found
  pub has_right : has (found.handle).flags right ≡ true

-- The machine does this where the object of that name is sound; an object of that size is there. The call is no misuse.
pub record IsOfObject (s : MachineState) (i : ℕ) (call : Call) (name : ObjectName) (size : ℕ) (done : Contents → Outcome) : Type 0 where
  pub there : HasObject s.objects name size
  pub outcome : outcome_of s i call ≡ of_sound s (object_at s.objects name) done
  pub proper : is_misuse (reply_of s i call) ≡ false

-- The machine does the call by that handle, on an object of that size.
pub record IsDone (s : MachineState) (i : ℕ) (call : Call) (name : ObjectName) (size : ℕ) : Type 0 where
  pub there : HasObject s.objects name size
  pub done : reply_of s i call ≡ Done

-- a call by that handle that needs that right is refused so, whatever it does
abbrev pub RefusesRight : MachineState → ℕ → Option Handle → Reply → Type 0
RefusesRight s right handle reply = (done : Handle → Outcome) → by_right s right handle done ≡ refuse s reply

-- what is told of a sound object by that handle
abbrev pub told_info : MachineState → Handle → Contents → Outcome
told_info s handle c = record { reply = Info (length c.bytes) handle.position handle.flags c.attributes; next = s }
