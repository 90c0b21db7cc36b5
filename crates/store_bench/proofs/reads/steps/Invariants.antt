use Rattle.run_acts.specs.ServedSteps.{AreCalls}
use Rattle.store_bench.proofs.reads.steps.Given as goal

abbrev pub invariant-loop-_ : goal.invariant-loop-_
invariant-loop-_ l = AreCalls 1 l.steps.items
