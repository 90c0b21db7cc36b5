use Rattle.std.proofs.Common.{◌≡◌, ◌≤◌, ◌-◌, length, vec_len}
use Rattle.tee_ports.specs.Streams.{TakesFirst}
use Rattle.script_runner.proofs.script_source.read_text.Given as goal

abbrev pub invariant-loop-text : goal.invariant-loop-text
invariant-loop-text g l = record {
  taken : TakesFirst (g.S.Source.left l.initial.source) (g.S.Source.left l.source) l.text.items;
  bounded : length l.text.items ≤ 16777217;
  piece : vec_len l.piece ≡ 65536;
  counted : g.S.Source.faults l.initial.source ≤ g.S.Source.faults l.source;
}

abbrev pub decreases-loop-text : goal.decreases-loop-text
decreases-loop-text g l = 16777217 - length l.text.items
