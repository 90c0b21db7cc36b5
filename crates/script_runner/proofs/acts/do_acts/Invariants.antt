use Rattle.std.proofs.Common.{◌≡◌, ◌≤◌, ◌-◌, length}
use Rattle.script_runner.specs.Points.{point_of}
use Rattle.script_runner.specs.RunReady.{IsReady}
use Rattle.script_runner.specs.Running.{Advances}
use Rattle.script_runner.proofs.acts.do_acts.Given as goal

abbrev pub invariant-loop-run : goal.invariant-loop-run
invariant-loop-run g l = record {
  advances : (first : g.row.E.Denot) → (g.E.Entropy.is_reliable first → g.E.Entropy.is_reliable l.fn.entropy)
      → Advances g.F.StoreFile.state g.R.RpmbPort.state g.F.FileRig.crash_image (g.E.Entropy.is_reliable first) l.keys l.script (point_of g.F.StoreFile.state g.R.RpmbPort.state l.script (g.K.Sink.held l.fn.sink) l.fn.run) (point_of g.F.StoreFile.state g.R.RpmbPort.state l.script (g.K.Sink.held l.sink) l.run);
  ready : IsReady l.script l.run;
  counted : g.K.Sink.faults l.fn.sink ≤ g.K.Sink.faults l.sink;
  reliable : g.E.Entropy.is_reliable l.fn.entropy → g.E.Entropy.is_reliable l.entropy;
  undrawn : g.E.Entropy.faults l.entropy ≡ g.E.Entropy.faults l.fn.entropy;
}

abbrev pub decreases-loop-run : goal.decreases-loop-run
decreases-loop-run g l = length l.script.steps - l.run.at
