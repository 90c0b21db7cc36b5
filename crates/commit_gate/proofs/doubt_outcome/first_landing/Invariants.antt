-- No event between those places settles.
use Rattle.std.proofs.Common.{◌≡◌, ◌+◌}
use Rattle.std.specs.Prelude.{find, drop}
use Rattle.history_seats.specs.Settling.{settles}
use Rattle.commit_gate.proofs.doubt_outcome.first_landing.Given as goal

abbrev pub invariant-loop-next : goal.invariant-loop-next
invariant-loop-next l = find settles (drop l.next l.history.events) ≡ find settles (drop (l.fn.place + 1) l.history.events)
