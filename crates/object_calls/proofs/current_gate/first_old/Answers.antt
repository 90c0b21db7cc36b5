-- The first that is found has none before it.
use Rattle.std.proofs.Common.{sym, arith}
use Rattle.crash_core.proofs.Doubles.{below}
use Rattle.crash_core.proofs.OldFormats.{first_old_at, none_is_old}
use Rattle.object_calls.proofs.current_gate.first_old.Goals as goal

pub loop-index-init : goal.loop-index-init
loop-index-init g c = λ k e lt at. absurd (omega (arith, lt))

pub returns : goal.returns
returns g c =
    let entries = c.args.gate.now.dir.dir.entries in
    sym (none_is_old entries (λ k e at. c.loop-index.invariant k e (omega (arith, c.loop-index-test.false, c.requires.whole, below entries k e at)) at))

pub returns-then-entry-eq1 : goal.returns-then-entry-eq1
returns-then-entry-eq1 g c =
    sym (first_old_at c.args.gate.now.dir.dir.entries c.loop-index.index c.in-Some.entry c.loop-index.invariant (sym c.in-Some.ensures) c.if-entry-eq1.true)
