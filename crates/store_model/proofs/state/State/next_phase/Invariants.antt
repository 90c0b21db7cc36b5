use Rattle.std.proofs.Common.{◌≡◌}
use Rattle.store_model.proofs.Phases.{anew_below}
use Rattle.store_model.proofs.state.State.next_phase.Given as goal

abbrev pub invariant-loop-i : goal.invariant-loop-i
invariant-loop-i l =
    (l.self-inside.objects ≡ l.initial.self-inside.objects)
    × (l.self-inside.sessions.items ≡ anew_below l.i l.initial.self-inside.sessions.items)
