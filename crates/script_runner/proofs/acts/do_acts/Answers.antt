use Rattle.std.proofs.Common.{arith, refl, ◌∙◌}
use Rattle.script_runner.specs.Points.{point_of}
use Rattle.script_runner.proofs.Endings.{Advances-append}
use Rattle.script_runner.proofs.Loops.{Advances-none, EndsAt-behind, failed-earlier}
use Rattle.script_runner.proofs.acts.do_acts.Goals as goal

pub loop-run-init : goal.loop-run-init
loop-run-init g c = record {
  advances = λ first lasts. Advances-none g.F.StoreFile.state g.R.RpmbPort.state g.F.FileRig.crash_image _ c.args.keys.now c.args.script.now (point_of g.F.StoreFile.state g.R.RpmbPort.state c.args.script.now (g.K.Sink.held c.args.sink.now) c.args.run);
  ready = c.requires.ready;
  counted = omega arith;
  reliable = λ reliable. reliable;
  undrawn = refl;
}

pub do_act-requires-clause-ready : goal.do_act-requires-clause-ready
do_act-requires-clause-ready g c = λ κs lives. c.loop-run.invariant.ready

pub loop-run-preserved : goal.loop-run-preserved
loop-run-preserved g c =
    let ok = c.in-Ok.ensures.ok c.args.entropy.now c.loop-run.invariant.reliable in record {
      advances = λ first lasts. Advances-append g.F.StoreFile.state g.R.RpmbPort.state g.F.FileRig.crash_image _ c.args.keys.now c.args.script.now _ _ _ (c.loop-run.invariant.advances first lasts)
          (c.in-Ok.ensures.ok first (λ reliable. c.loop-run.invariant.reliable (lasts reliable))).advances;
      ready = ok.ready;
      counted = omega (arith, c.loop-run.invariant.counted, c.in-Ok.ensures.counted);
      reliable = λ reliable. c.in-Ok.ensures.reliable (c.loop-run.invariant.reliable reliable);
      undrawn = c.in-Ok.ensures.undrawn ∙ c.loop-run.invariant.undrawn;
    }

pub returns-in-Err-clause-ends : goal.returns-in-Err-clause-ends
returns-in-Err-clause-ends g c = λ first lasts.
    EndsAt-behind g.F.StoreFile.state g.R.RpmbPort.state g.F.FileRig.crash_image _ c.args.keys.now c.args.script.now _ _ _ _ _ _ _ _ c.args.run c.loop-run.run c.in-Err.end c.loop-run.invariant.undrawn
    (failed-earlier (g.K.Sink.faults c.args.sink.now) _ _ _ c.loop-run.invariant.counted) (c.loop-run.invariant.advances first lasts)
    (c.in-Err.ensures.err first (λ reliable. c.loop-run.invariant.reliable (lasts reliable)))

pub finish-requires-clause-ready : goal.finish-requires-clause-ready
finish-requires-clause-ready g c = c.loop-run.invariant.ready

pub returns-clause-ends : goal.returns-clause-ends
returns-clause-ends g c = λ first lasts.
    EndsAt-behind g.F.StoreFile.state g.R.RpmbPort.state g.F.FileRig.crash_image _ c.args.keys.now c.args.script.now _ _ _ _ _ _ _ _ c.args.run c.loop-run.run c.finish.result c.loop-run.invariant.undrawn
    (failed-earlier (g.K.Sink.faults c.args.sink.now) _ _ _ c.loop-run.invariant.counted) (c.loop-run.invariant.advances first lasts)
    (c.finish.ensures.ends (g.E.Entropy.faults c.loop-run.entropy) (g.E.Entropy.faults c.loop-run.entropy) first)
