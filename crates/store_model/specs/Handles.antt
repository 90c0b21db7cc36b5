-- Calls that give handles and take them back, and the rule by which handles share an object.
use Rattle.std.specs.Prelude.{ℕ, Bool, not, ◌&&◌, ◌||◌, nat_lt, nat_le, ◌+◌, List, [], ◌∷◌, ◌++◌, length}
use Rattle.std.specs.List.{list_any, list_all}
use Rattle.tee_types.specs.declared.flags.Flags.{Flags}
use Rattle.tee_types.specs.declared.reply.Reply.{Reply}
use Rattle.tee_types.specs.declared.reply.Reply.TheVariants.{Done, Handle as HandleReply, Refused, Misuse, Corrupt}
use Rattle.tee_types.specs.declared.reply.Code.TheVariants.{AccessConflict, BadParameters, ItemNotFound, NoSpace}
use Rattle.tee_types.specs.declared.reply.Reason.TheVariants.{BadFlags, TooMany}
use Rattle.tee_types.specs.Limits.{most_attribute_bytes, most_data_bytes}
use Rattle.tee_types.specs.Rights.{overwrite_bit, has, is_known, are_compatible, without_overwrite}
use Rattle.store_model.specs.declared.name.ObjectName.{ObjectName}
use Rattle.store_model.specs.Name.{name_eq}
use Rattle.store_model.specs.Object.{Sound, ObjectMap, most_objects, object_at, holds, with_object, is_damaged}
use Rattle.store_model.specs.Machine.{Session, MachineState, Outcome, session_at, with_session, name_in, handle_at, without_handle, has_all_handles, unless_refused, by_handle}

-- a handle of the session stands for that object
abbrev pub has_open : ObjectName → Session → Bool
has_open name session = list_any (λ h. name_eq name (h.1).name) session.handles

-- a new handle with these flags is compatible with each handle of the session on that object
abbrev pub allows_open : ObjectName → Flags → Session → Bool
allows_open name flags session = list_all (λ h. not (name_eq name (h.1).name) || are_compatible flags (h.1).flags) session.handles

-- a new handle on that object, at position 0, and its number
abbrev pub open_handle : MachineState → ℕ → ObjectName → Flags → Outcome
open_handle s i name flags = let session = session_at s i in record {
  reply = HandleReply session.next_handle;
  next = with_session s i (record session {
    handles = session.handles ++ (session.next_handle, record { name = name; flags = flags; position = 0 }) ∷ [];
    next_handle = session.next_handle + 1;
  });
}

-- an object of that name would be new, and the store has as many objects as it may have
abbrev pub lacks_room : ObjectMap → ObjectName → Bool
lacks_room objects name = not (holds objects name) && nat_le most_objects (length objects)

-- why a create is refused
abbrev pub create_refusals : MachineState → ℕ → ObjectName → Flags → List ℕ → List ℕ → List (Bool × Reply)
create_refusals s i name flags attributes bytes =
    (not (is_known flags), Misuse BadFlags)
    ∷ (has_all_handles (session_at s i), Misuse TooMany)
    ∷ (nat_lt most_attribute_bytes (length attributes), Refused BadParameters)
    ∷ (holds s.objects name && not (has flags overwrite_bit), Refused AccessConflict)
    ∷ (holds s.objects name && list_any (has_open name) s.sessions, Refused AccessConflict)
    ∷ (nat_lt most_data_bytes (length bytes) || lacks_room s.objects name, Refused NoSpace)
    ∷ []

-- TEE_CreatePersistentObject: the object is made or replaced, whole and at once, and opened.
unfoldable pub create_of : MachineState → ℕ → List ℕ → Flags → List ℕ → List ℕ → Outcome
create_of s i id flags attributes bytes =
    let name = name_in s i id in
    let object = Sound (record { attributes = attributes; bytes = bytes; bad = [] }) in
    unless_refused (create_refusals s i name flags attributes bytes) s
    (open_handle (record s { objects = with_object s.objects name object }) i name (without_overwrite flags))

-- why an open is refused
abbrev pub open_refusals : MachineState → ℕ → ObjectName → Flags → List (Bool × Reply)
open_refusals s i name flags =
    (not (is_known flags) || has flags overwrite_bit, Misuse BadFlags)
    ∷ (has_all_handles (session_at s i), Misuse TooMany)
    ∷ (not (holds s.objects name), Refused ItemNotFound)
    ∷ (not (list_all (allows_open name flags) s.sessions), Refused AccessConflict)
    ∷ (is_damaged (object_at s.objects name), Corrupt)
    ∷ []

-- TEE_OpenPersistentObject
unfoldable pub open_of : MachineState → ℕ → List ℕ → Flags → Outcome
open_of s i id flags =
    let name = name_in s i id in
    unless_refused (open_refusals s i name flags) s (open_handle s i name flags)

-- TEE_CloseObject
unfoldable pub close_of : MachineState → ℕ → ℕ → Outcome
close_of s i number = by_handle s (handle_at (session_at s i) number) (λ handle. record {
  reply = Done;
  next = with_session s i (without_handle (session_at s i) number);
})
