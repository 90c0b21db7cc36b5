use Rattle.std.proofs.Common.{◌≡◌, ◌+◌, drop}
use Rattle.std.specs.List.{position_or_len}
use Rattle.script_text.specs.Lines.{is_blank}
use Rattle.script_text.proofs.words.word_length.Given as goal

abbrev pub invariant-loop-i : goal.invariant-loop-i
invariant-loop-i l = position_or_len is_blank l.line ≡ l.i + position_or_len is_blank (drop l.i l.line)
