-- One session of the machine, where the replay of a history stands.
use Rattle.std.specs.Prelude.{◌==◌, ℕ, if◌then◌else◌, Option, Some, None}
use Rattle.store_model.specs.Machine.{MachineState, Session, session_at}
use Rattle.store_model.specs.Doubt.{Doubt, session_landed}
use Rattle.store_model.specs.ReplayState.{ReplayState}
use Rattle.history_seats.specs.Settling.{Pending}

-- the session once the commit in doubt landed, where that commit is its own
abbrev pub session_if_landed : ℕ → MachineState → Option Doubt → Option Session
session_if_landed session state None = None
session_if_landed session state (Some doubt) = if doubt.session == session then Some (session_landed state session doubt.call) else None

-- the session as it stands, and once the commit in doubt landed
abbrev pub session_of : ℕ → ReplayState → Pending Session
session_of session replay_state = record { now = session_at replay_state.state session; if_landed = session_if_landed session replay_state.state replay_state.doubt }
