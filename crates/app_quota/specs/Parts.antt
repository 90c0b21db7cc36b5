-- An application's part of the store: its own objects and its own sessions.
use Rattle.std.specs.Prelude.{◌≡◌, ℕ, Bool, true, false, List, map}
use Rattle.std.specs.Ordering.{is_eq}
use Rattle.tee_types.specs.Identifier.{bytes_cmp}
use Rattle.tee_types.specs.declared.call.Call.{Call}
use Rattle.tee_types.specs.declared.call.Call.TheVariants.{Create}
use Rattle.store_model.specs.Machine.{Session, MachineState, new_session, session_at, name_in}
use Rattle.store_model.specs.Handles.{lacks_room}
use Rattle.app_totals.specs.Totals.{objects_of}
use Rattle.app_totals.specs.Meant.{is_granted}

-- the session is one of that application
abbrev pub is_session_of : List ℕ → Session → Bool
is_session_of app session = is_eq (bytes_cmp app session.application)

-- a session of another application is as it began
abbrev pub session_part : List ℕ → Session → Session
session_part app session = elim (is_session_of app session) [ true ↦ session | false ↦ new_session session.application ]

-- the store with the application's objects alone, and with its sessions alone at work; each session keeps its number
abbrev pub part_of : List ℕ → MachineState → MachineState
part_of app s = record { objects = objects_of app s.objects; sessions = map (session_part app) s.sessions }

-- The limit on the number of objects of all applications decides nothing: a create that else is granted meets it among the application's
-- own objects where it does among all.
abbrev pub MeetsNoOthers : MachineState → ℕ → Call → Type 0
MeetsNoOthers s i (Create id flags attributes bytes) =
    is_granted s i (Create id flags attributes bytes) ≡ true
    → lacks_room (objects_of (session_at s i).application s.objects) (name_in s i id) ≡ lacks_room s.objects (name_in s i id)
MeetsNoOthers s i _ = Unit {0}
