use Rattle.std.proofs.Common.{◌++◌, ◌≤◌, ◌<◌, length, take}
use Rattle.script_text.specs.Text.{phase_line, events_text}
use Rattle.script_runner.specs.Sending.{Sends}
use Rattle.script_runner.proofs.phase_text.send_history.Given as goal

abbrev pub invariant-loop-place : goal.invariant-loop-place
invariant-loop-place g l = record {
  sent : Sends (g.K.Sink.held l.fn.sink) (g.K.Sink.held l.sink) l.fn.kept.items l.kept.items (phase_line l.phase.number l.phase.mode l.phase.objects ++ events_text l.script 0 (take l.place l.phase.history.now.events));
  counted : g.K.Sink.faults l.fn.sink ≤ g.K.Sink.faults l.sink;
  small : length l.kept.items < 65536;
}
