use Rattle.std.proofs.Common.{◌≡◌}
use Rattle.seed_words.specs.Rounds.{rising}
use Rattle.seed_words.proofs.soak_texts.rising.Given as goal

abbrev pub invariant-loop-j : goal.invariant-loop-j
invariant-loop-j l = l.bytes.items ≡ rising l.first l.j
