-- The store as one thread of calls sees it: its state, and what a call is answered
-- (TEE Internal Core API, Trusted Storage: persistent object functions, enumeration functions and data stream access functions).
use Rattle.std.specs.Prelude.{◌==◌, ℕ, Bool, ◌||◌, if◌then◌else◌, nat_le, List, [], ◌∷◌, length, map, Option, Some, None, slice_index_or, slice_set}
use Rattle.std.specs.Map.{lookup, set_value, remove_entry}
use Rattle.tee_types.specs.declared.reply.Reply.{Reply}
use Rattle.tee_types.specs.declared.reply.Reply.TheVariants.{Misuse, Corrupt}
use Rattle.tee_types.specs.declared.reply.Reason.TheVariants.{BadHandle, NoRight}
use Rattle.tee_types.specs.Rights.{has}
use Rattle.enumerators.specs.Enumeration.{EnumeratorTable, no_enumerators}
use Rattle.store_model.specs.declared.name.ObjectName.{ObjectName}
use Rattle.store_model.specs.declared.session.Handle.{Handle}
use Rattle.store_model.specs.Object.{Object, Contents, Sound, Damaged, ObjectMap}

-- The session of an application. Handles are numbered in the order in which they are given; a number is never given again.
pub record Session : Type 0 where
  pub application : List ℕ
  -- the live handles by number, in the order in which they were given
  pub handles : List (ℕ × Handle)
  -- the number of the next handle
  pub next_handle : ℕ
  pub enumerators : EnumeratorTable

pub record MachineState : Type 0 where
  pub objects : ObjectMap
  pub sessions : List Session

-- What a call is answered, and the state that it leaves.
pub record Outcome : Type 0 where
  pub reply : Reply
  pub next : MachineState

-- the session of an application as it begins
abbrev pub new_session : List ℕ → Session
new_session application = record { application = application; handles = []; next_handle = 0; enumerators = no_enumerators }

-- a store of these objects, with a session for each of the applications
abbrev pub opened_store : ObjectMap → List (List ℕ) → MachineState
opened_store objects applications = record { objects = objects; sessions = map new_session applications }

-- the applications of these sessions
abbrev pub applications : List Session → List (List ℕ)
applications sessions = map (λ session. session.application) sessions

-- the same objects, and each session as it begins
abbrev pub next_phase : MachineState → MachineState
next_phase s = opened_store s.objects (applications s.sessions)

-- at places past the last session stands one of no application
abbrev pub session_at : MachineState → ℕ → Session
session_at s i = slice_index_or s.sessions i (new_session [])

abbrev pub with_session : MachineState → ℕ → Session → MachineState
with_session s i session = record s { sessions = slice_set s.sessions i session }

-- the name of a session's object
abbrev pub name_in : MachineState → ℕ → List ℕ → ObjectName
name_in s i id = record { app = (session_at s i).application; id = id }

abbrev pub handle_at : Session → ℕ → Option Handle
handle_at session number = lookup (λ n. n == number) session.handles

-- the session with that handle in place of the live one of that number
abbrev pub with_handle : Session → ℕ → Handle → Session
with_handle session number handle = record session { handles = set_value (λ n. n == number) session.handles handle }

-- the session without the live handle of that number
abbrev pub without_handle : Session → ℕ → Session
without_handle session number = record session { handles = remove_entry (λ n. n == number) session.handles }

-- A session has at most 1,024 live handles, and gives at most 4,294,967,295 numbers.
abbrev pub has_all_handles : Session → Bool
has_all_handles session = nat_le 1024 (length session.handles) || nat_le 4294967295 session.next_handle

-- the rows of refusals of a call, each a test and its reply: the first that passes refuses
abbrev pub first_refusal : List (Bool × Reply) → Option Reply
first_refusal [] = None
first_refusal (row ∷ rows) = if row.0 then Some row.1 else first_refusal rows

abbrev pub refuse : MachineState → Reply → Outcome
refuse s reply = record { reply = reply; next = s }

-- a refused call changes nothing
abbrev pub unless_refused : List (Bool × Reply) → MachineState → Outcome → Outcome
unless_refused rows s done = elim (first_refusal rows) [ Some reply ↦ refuse s reply | None ↦ done ]

-- what a call on a handle does, where there is a live one of its number
abbrev pub by_handle : MachineState → Option Handle → (Handle → Outcome) → Outcome
by_handle s None done = refuse s (Misuse BadHandle)
by_handle s (Some handle) done = done handle

-- the same of a call that needs a right
abbrev pub by_right : MachineState → ℕ → Option Handle → (Handle → Outcome) → Outcome
by_right s right None done = refuse s (Misuse BadHandle)
by_right s right (Some handle) done = if has handle.flags right then done handle else refuse s (Misuse NoRight)

-- what a call on the object of a live handle does, where the object is sound
abbrev pub of_sound : MachineState → Option Object → (Contents → Outcome) → Outcome
of_sound s None done = refuse s (Misuse BadHandle)
of_sound s (Some (Damaged n)) done = refuse s Corrupt
of_sound s (Some (Sound contents)) done = done contents
