-- A commit that the card did not confirm, and what it leaves where it turns out to have landed.
use Rattle.std.specs.Prelude.{ℕ, List, Option, Some, None}
use Rattle.tee_types.specs.declared.call.Call.{Call}
use Rattle.tee_types.specs.declared.call.Call.TheVariants.{Rename, Delete}
use Rattle.store_model.specs.declared.session.Handle.{Handle}
use Rattle.store_model.specs.Machine.{Session, MachineState, session_at, with_session, name_in, handle_at, with_handle, without_handle}
use Rattle.store_model.specs.Calls.{state_after}

pub record Doubt : Type 0 where
  -- the commit's number
  pub commit : ℕ
  pub session : ℕ
  pub call : Call
  -- the file of its object, where it has one
  pub file : Option ℕ

-- the session's live handle of that number stands for the object of that identifier
abbrev pub follows : MachineState → ℕ → ℕ → List ℕ → Option Handle → Session
follows s i number id None = session_at s i
follows s i number id (Some handle) = with_handle (session_at s i) number (record handle { name = name_in s i id })

-- the session after its doubted call landed: the handle of a delete is closed, the handle of a rename follows its object, and no
-- handle is given
abbrev pub session_landed : MachineState → ℕ → Call → Session
session_landed s i (Delete handle) = without_handle (session_at s i) handle
session_landed s i (Rename handle id) = follows s i handle id (handle_at (session_at s i) handle)
session_landed s i _ = session_at s i

-- the state after the doubted call landed: the objects are those that the call leaves, and no position changes
abbrev pub state_landed : MachineState → Doubt → MachineState
state_landed s doubt =
    with_session (record s { objects = (state_after s doubt.session doubt.call).objects }) doubt.session (session_landed s doubt.session doubt.call)
