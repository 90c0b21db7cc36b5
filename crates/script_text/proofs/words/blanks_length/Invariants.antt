use Rattle.std.proofs.Common.{◌≡◌, ◌+◌, drop}
use Rattle.std.specs.List.{prefix_len}
use Rattle.script_text.specs.Lines.{is_blank}
use Rattle.script_text.proofs.words.blanks_length.Given as goal

abbrev pub invariant-loop-i : goal.invariant-loop-i
invariant-loop-i l = prefix_len is_blank l.line ≡ l.i + prefix_len is_blank (drop l.i l.line)
