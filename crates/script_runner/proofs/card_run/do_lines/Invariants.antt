use Rattle.std.proofs.Common.{◌≡◌, ◌≤◌, ◌-◌, length}
use Rattle.rpmb_files.specs.Stores.{store_state}
use Rattle.script_runner.proofs.CardLoops.{LinesDone}
use Rattle.script_runner.proofs.card_run.do_lines.Given as goal

abbrev pub invariant-loop-run : goal.invariant-loop-run
invariant-loop-run g l = record {
  done : (first : g.row.E.Denot) → (g.E.Entropy.is_reliable first → g.E.Entropy.is_reliable l.fn.run.store.entropy)
      → LinesDone (g.E.Entropy.is_reliable first) l.script (g.K.Sink.held l.fn.sink) (g.K.Sink.held l.sink) (store_state g.R.RpmbPort.state g.E.Entropy.faults l.fn.run.store) (store_state g.R.RpmbPort.state g.E.Entropy.faults l.run.store) l.run.at l.run.kept.items;
  within : l.run.at ≤ length l.script;
  counted : g.K.Sink.faults l.fn.sink ≤ g.K.Sink.faults l.sink;
  reliable : g.E.Entropy.is_reliable l.fn.run.store.entropy → g.E.Entropy.is_reliable l.run.store.entropy;
  key : l.run.store.host.key ≡ l.key;
}

abbrev pub decreases-loop-run : goal.decreases-loop-run
decreases-loop-run g l = length l.script - l.run.at
