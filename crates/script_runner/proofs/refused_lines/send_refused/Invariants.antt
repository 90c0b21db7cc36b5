use Rattle.std.proofs.Common.{◌≤◌, ◌<◌, length, take}
use Rattle.script_runner.specs.RefusedLines.{IsCounted, refused_lines}
use Rattle.script_runner.specs.Sending.{Sends}
use Rattle.script_runner.proofs.refused_lines.send_refused.Given as goal

abbrev pub invariant-loop-call : goal.invariant-loop-call
invariant-loop-call g l = record {
  sent : Sends (g.K.Sink.held l.fn.sink) (g.K.Sink.held l.sink) l.fn.kept.items l.kept.items (refused_lines l.script l.steps (take l.call-index l.refused));
  count : IsCounted l.steps l.count;
  counted : g.K.Sink.faults l.fn.sink ≤ g.K.Sink.faults l.sink;
  small : length l.kept.items < 65536;
}
