use Rattle.std.proofs.Common.{◌≡◌, ◌<◌, ◌≤◌, get_or, length, arith, refl, subst}
use Rattle.script_runner.proofs.CardLoops.{LinesDone-more, LinesDone-none}
use Rattle.script_runner.proofs.Loops.{failed-earlier}
use Rattle.script_runner.proofs.CardEndings.{RunsLines-finished, RunsLines-stopped}
use Rattle.script_runner.proofs.card_run.do_lines.Goals as goal

pub loop-run-init : goal.loop-run-init
loop-run-init g c = record {
  done = λ first lasts. LinesDone-none _ c.args.script.now _ _ c.args.run.at c.args.run.kept.items c.requires.first c.requires.nothing;
  within = omega (arith, c.requires.first);
  counted = omega arith;
  reliable = λ reliable. reliable;
  key = c.requires.key;
}

pub loop-run-preserved : goal.loop-run-preserved
loop-run-preserved g c =
    let ran = c.loop-run.run in
    let is = subst (λ ls. c.index-lines-run.result ≡ get_or ls ran.at c.index-lines-run.result) c.lines-in-loop-run.ensures c.index-lines-run.is in
    let within : ran.at < length c.args.script.now = subst (λ ls. ran.at < length ls) c.lines.ensures c.loop-run-test.true in
    let ok = c.in-Ok.ensures.ok c.loop-run.run.store.entropy (λ reliable. reliable) in record {
      done = λ first lasts.
          let on = c.in-Ok.ensures.ok first (λ r. c.loop-run.invariant.reliable (lasts r)) in
          LinesDone-more _ c.args.script.now _ _ _ _ _ _ ran.at ran.kept.items c.index-lines-run.result within is (c.loop-run.invariant.done first lasts) on.done c.in-Ok.next.kept.items c.in-Ok.next.at on.does on.sends on.at;
      within = omega (arith, within, ok.at);
      counted = omega (arith, c.loop-run.invariant.counted, c.in-Ok.ensures.counted);
      reliable = λ reliable. c.in-Ok.ensures.reliable (c.loop-run.invariant.reliable reliable);
      key = c.in-Ok.ensures.key;
    }

pub returns : goal.returns
returns g c = λ first lasts handed mounted.
    RunsLines-finished g.R.RpmbPort.state g.E.Entropy.faults _ c.args.key.now c.args.script.now handed _ mounted _ _
    (failed-earlier (g.K.Sink.faults c.args.sink.now) _ _ _ c.loop-run.invariant.counted) _ _ _ c.loop-run.run c.finish.result
    (subst (λ ls. length ls ≤ c.loop-run.run.at) c.lines.ensures c.loop-run-test.false) (c.loop-run.invariant.done first lasts) c.finish.ensures.card c.finish.result.status refl c.finish.ensures.prints

pub returns-in-Err : goal.returns-in-Err
returns-in-Err g c = λ first lasts handed mounted.
    let ran = c.loop-run.run in
    let is = subst (λ ls. c.index-lines-run.result ≡ get_or ls ran.at c.index-lines-run.result) c.lines-in-loop-run.ensures c.index-lines-run.is in
    let within : ran.at < length c.args.script.now = subst (λ ls. ran.at < length ls) c.lines.ensures c.loop-run-test.true in
    RunsLines-stopped g.R.RpmbPort.state g.E.Entropy.faults _ c.args.key.now c.args.script.now handed _ mounted _ _
    (failed-earlier (g.K.Sink.faults c.args.sink.now) _ _ _ c.loop-run.invariant.counted) _ _ _ ran c.in-Err.end c.index-lines-run.result within is
    (c.loop-run.invariant.done first lasts) (c.in-Err.ensures.err first (λ r. c.loop-run.invariant.reliable (lasts r)))
