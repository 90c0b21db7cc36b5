use Rattle.std.proofs.Common.{arith, take}
use Rattle.std.proofs.lemmas.List.{length-take-le}
use Rattle.run_acts.proofs.Calls.{calls_in-within}
use Rattle.script_runner.proofs.RefusedLines.{counted-more}
use Rattle.script_runner.proofs.refused_lines.count_to.Goals as goal

pub overflow_add-calls : goal.overflow_add-calls
overflow_add-calls c =
    let a = c.args in
    let whole = counted-more a.steps.now a.count a.app a.step c.requires.counted c.if-count-app.true c.if-count-step.true in
    let taken = length-take-le a.step a.steps.now c.requires.within in
    omega (arith, whole, c.count_calls-more.ensures, calls_in-within a.app (take a.step a.steps.now), taken, c.ranges.step)

pub returns-then-count-step-clause-counted : goal.returns-then-count-step-clause-counted
returns-then-count-step-clause-counted c =
    let a = c.args in
    let whole = counted-more a.steps.now a.count a.app a.step c.requires.counted c.if-count-app.true c.if-count-step.true in
    record { within = c.requires.within; calls = omega (arith, whole, c.count_calls-more.ensures) }

pub returns-clause-counted : goal.returns-clause-counted
returns-clause-counted c = record { within = c.requires.within; calls = c.count_calls-calls.ensures }
