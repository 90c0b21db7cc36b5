use Rattle.std.proofs.Common.{◌≡◌, ◌≤◌, ◌+◌, [], length}
use Rattle.script_text.specs.Lines.{lines_of}
use Rattle.card_script.specs.CardScripts.{script_from}
use Rattle.card_script.proofs.reading.parse.Given as goal

abbrev pub invariant-loop-line : goal.invariant-loop-line
invariant-loop-line l = record {
  same : script_from l.script (l.number + 1) (lines_of l.rest) ≡ script_from [] 1 (lines_of l.text);
  counted : l.number + length l.rest ≤ length l.text;
}

abbrev pub decreases-loop-line : goal.decreases-loop-line
decreases-loop-line l = length l.rest
