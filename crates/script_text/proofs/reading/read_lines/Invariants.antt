use Rattle.std.proofs.Common.{◌≡◌, ◌≤◌, ◌+◌, length}
use Rattle.script_text.specs.Lines.{lines_of}
use Rattle.script_text.specs.Script.{no_script}
use Rattle.script_text.specs.Grammar.{script_from}
use Rattle.script_text.proofs.reading.read_lines.Given as goal

abbrev pub invariant-loop-line : goal.invariant-loop-line
invariant-loop-line l = record {
  same : script_from l.script (l.number + 1) (lines_of l.rest) ≡ script_from no_script 1 (lines_of l.text);
  counted : l.number + length l.rest ≤ length l.text;
  declared : length l.script.applications ≤ l.number;
  short : length l.script.steps ≤ l.number;
}

abbrev pub decreases-loop-line : goal.decreases-loop-line
decreases-loop-line l = length l.rest
