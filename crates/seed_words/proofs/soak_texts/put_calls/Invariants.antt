use Rattle.std.proofs.Common.{◌≡◌, ◌++◌}
use Rattle.std.specs.List.{flat_map}
use Rattle.seed_words.specs.Joined.{joined}
use Rattle.seed_words.specs.SoakWords.{words_at, words_of_round}
use Rattle.seed_words.specs.Rounds.{round_calls}
use Rattle.seed_words.specs.Texts.{line_of_call}
use Rattle.seed_words.proofs.soak_texts.put_calls.Given as goal

abbrev pub invariant-loop-i : goal.invariant-loop-i
invariant-loop-i l = record {
  words : l.words ≡ words_at l.number l.app l.i;
  text : l.out.items ≡ l.fn.out.items ++ flat_map (line_of_call l.app) (joined (λ i. round_calls (words_of_round l.number l.app i) i) l.i);
}
