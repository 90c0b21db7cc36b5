use Rattle.std.proofs.Common.{◌≡◌, map, take}
use Rattle.store_model.specs.Machine.{new_session}
use Rattle.store_model.proofs.state.State.empty.Given as goal

abbrev pub invariant-loop-app : goal.invariant-loop-app
invariant-loop-app l = l.sessions.items ≡ map new_session (take l.app-index l.apps)
