use Rattle.std.proofs.Common.{◌≤◌, ◌-◌, length, take}
use Rattle.tee_ports.specs.Streams.{Appends}
use Rattle.script_runner.proofs.text_sink.put_all.Given as goal

abbrev pub invariant-loop-at : goal.invariant-loop-at
invariant-loop-at g l = record {
  put : Appends (g.K.Sink.held l.initial.sink) (g.K.Sink.held l.sink) (take l.at l.bytes);
  within : l.at ≤ length l.bytes;
  counted : g.K.Sink.faults l.initial.sink ≤ g.K.Sink.faults l.sink;
}

abbrev pub decreases-loop-at : goal.decreases-loop-at
decreases-loop-at g l = length l.bytes - l.at
