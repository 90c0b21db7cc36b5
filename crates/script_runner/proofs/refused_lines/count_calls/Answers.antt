use Rattle.std.proofs.Common.{◌∙◌, [], ◌∷◌, length, take, length-append, ap, arith}
use Rattle.std.proofs.lemmas.List.{length-take-le}
use Rattle.run_acts.specs.ServedSteps.{calls_in}
use Rattle.run_acts.proofs.Calls.{calls_in-more, calls_in-within}
use Rattle.script_runner.proofs.refused_lines.count_calls.Goals as goal

pub overflow_add-count : goal.overflow_add-count
overflow_add-count c =
    let a = c.args in
    let l = c.loop-step in
    let within = calls_in-within a.app (take l.step-index a.steps.now) in
    let one = calls_in-within a.app (c.step-item.result ∷ []) in
    let taken = length-take-le l.step-index a.steps.now (omega (arith, c.loop-step-test.true)) in
    omega (arith, l.invariant, within, taken, one, c.count_call-count.ensures, c.loop-step-test.true, l.auto.step-index-end)

pub loop-step-preserved : goal.loop-step-preserved
loop-step-preserved c =
    let a = c.args in
    let l = c.loop-step in
    let step = c.step-item.result in
    let first = calls_in a.app (take l.step-index a.steps.now) in
    let last = calls_in a.app (step ∷ []) in
    let more = ap length (calls_in-more a.app a.steps.now l.step-index step c.loop-step-test.true c.step-item.is) ∙ length-append first last in
    omega (arith, l.invariant, c.count_call-count.ensures, more)
