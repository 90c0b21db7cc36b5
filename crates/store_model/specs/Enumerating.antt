-- Calls that enumerate the objects of an application, as they are at each call.
use Rattle.std.specs.Prelude.{ℕ, Bool, if◌then◌else◌, ◌&&◌, not, List, [], ◌∷◌, Option, Some, None}
use Rattle.std.specs.List.{find, list_any}
use Rattle.std.specs.Option.{option_map}
use Rattle.std.specs.Ordering.{is_eq, is_lt}
use Rattle.tee_types.specs.declared.reply.Reply.TheVariants.{Done, Handle, Found, Refused, Misuse}
use Rattle.tee_types.specs.declared.reply.Code.TheVariants.{ItemNotFound}
use Rattle.tee_types.specs.declared.reply.Reason.TheVariants.{BadEnumerator, TooMany}
use Rattle.tee_types.specs.Identifier.{bytes_cmp}
use Rattle.enumerators.specs.declared.cursor.Cursor.{Cursor}
use Rattle.enumerators.specs.declared.cursor.Cursor.TheVariants.{Idle, First, After}
use Rattle.enumerators.specs.Enumeration.{EnumeratorTable, cursor_at, has_all, allocated, started, reset, advanced, freed}
use Rattle.store_model.specs.declared.name.ObjectName.{ObjectName}
use Rattle.store_model.specs.Object.{Object, ObjectMap, size_of}
use Rattle.store_model.specs.Machine.{MachineState, Outcome, session_at, with_session, unless_refused, refuse}

-- the object is one of that application
abbrev pub is_of : List ℕ → ObjectName × Object → Bool
is_of application entry = is_eq (bytes_cmp application (entry.0).app)

-- the object is one of that application, with an identifier above that one
abbrev pub is_above : List ℕ → List ℕ → ObjectName × Object → Bool
is_above application id entry = is_of application entry && is_lt (bytes_cmp id (entry.0).id)

-- the object, where it is one of the application
abbrev pub if_of : List ℕ → Option (ObjectName × Object) → Option (ObjectName × Object)
if_of application None = None
if_of application (Some entry) = if is_of application entry then Some entry else None

-- what an enumerator tells of an object: its identifier and its size
abbrev pub shown : ObjectName × Object → List ℕ × ℕ
shown entry = ((entry.0).id, size_of entry.1)

-- the object that an enumerator gives next: the least above the last one that it gave; a map has its objects in the order of their names
abbrev pub next_object : ObjectMap → List ℕ → Cursor → Option (ObjectName × Object)
next_object objects application Idle = None
next_object objects application First = find (is_of application) objects
next_object objects application (After id) = find (is_above application id) objects

-- the state with these enumerators in the session
abbrev pub with_enumerators : MachineState → ℕ → EnumeratorTable → MachineState
with_enumerators s i table = with_session s i (record (session_at s i) { enumerators = table })

-- what a call on an enumerator does, where there is a live one of its number
abbrev pub by_cursor : MachineState → Option Cursor → (Cursor → Outcome) → Outcome
by_cursor s None done = refuse s (Misuse BadEnumerator)
by_cursor s (Some cursor) done = done cursor

-- TEE_AllocatePersistentObjectEnumerator
unfoldable pub enum_new_of : MachineState → ℕ → Outcome
enum_new_of s i =
    let table = (session_at s i).enumerators in
    unless_refused ((has_all table, Misuse TooMany) ∷ []) s
    (record { reply = Handle table.next; next = with_enumerators s i (allocated table) })

-- TEE_StartPersistentObjectEnumerator: where the application has no object, the enumerator is then not started.
unfoldable pub enum_start_of : MachineState → ℕ → ℕ → Outcome
enum_start_of s i number =
    let table = (session_at s i).enumerators in
    by_cursor s (cursor_at table number) (λ cursor.
    unless_refused ((not (list_any (is_of (session_at s i).application) s.objects), Refused ItemNotFound) ∷ [])
    (with_enumerators s i (reset table number))
    (record { reply = Done; next = with_enumerators s i (started table number) }))

-- the reply that tells of an object, and the enumerator behind it; or that there is none
abbrev pub enum_gives : MachineState → ℕ → ℕ → Option (List ℕ × ℕ) → Outcome
enum_gives s i number None = refuse s (Refused ItemNotFound)
enum_gives s i number (Some (id, size)) = record {
  reply = Found id size;
  next = with_enumerators s i (advanced (session_at s i).enumerators number id);
}

-- TEE_GetNextPersistentObject: the least identifier above the last one given. Where there is none, the enumerator is left as it was.
unfoldable pub enum_next_of : MachineState → ℕ → ℕ → Outcome
enum_next_of s i number =
    let session = session_at s i in
    by_cursor s (cursor_at session.enumerators number)
    (λ cursor. enum_gives s i number (option_map shown (next_object s.objects session.application cursor)))

-- TEE_ResetPersistentObjectEnumerator
unfoldable pub enum_reset_of : MachineState → ℕ → ℕ → Outcome
enum_reset_of s i number =
    let table = (session_at s i).enumerators in
    by_cursor s (cursor_at table number)
    (λ cursor. record { reply = Done; next = with_enumerators s i (reset table number) })

-- TEE_FreePersistentObjectEnumerator
unfoldable pub enum_free_of : MachineState → ℕ → ℕ → Outcome
enum_free_of s i number =
    let table = (session_at s i).enumerators in
    by_cursor s (cursor_at table number)
    (λ cursor. record { reply = Done; next = with_enumerators s i (freed table number) })
