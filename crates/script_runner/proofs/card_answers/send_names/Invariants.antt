use Rattle.std.proofs.Common.{◌≤◌, ◌<◌, length}
use Rattle.script_runner.specs.Sending.{Sends}
use Rattle.script_runner.proofs.CardTexts.{listed_upto}
use Rattle.script_runner.proofs.card_answers.send_names.Given as goal

abbrev pub invariant-loop-name : goal.invariant-loop-name
invariant-loop-name g l = record {
  sent : Sends (g.K.Sink.held l.fn.sink) (g.K.Sink.held l.sink) l.fn.kept.items l.kept.items (listed_upto l.fn.place l.fn.line l.names l.name-index);
  counted : g.K.Sink.faults l.fn.sink ≤ g.K.Sink.faults l.sink;
  small : length l.kept.items < 65536;
}
