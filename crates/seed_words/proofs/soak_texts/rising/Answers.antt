use Rattle.std.proofs.Common.{◌+◌, ◌%◌, [], ◌∷◌, arith}
use Rattle.std.proofs.lemmas.Grind.{common_steps}
use Rattle.seed_words.proofs.Joins.{joined-more, joined-none}
use Rattle.seed_words.proofs.soak_texts.rising.Goals as goal

pub loop-j-init : goal.loop-j-init
loop-j-init c = let none = joined-none (λ j. (c.args.first + j) % 256 ∷ []) in grind (arith, common_steps)

pub loop-j-preserved : goal.loop-j-preserved
loop-j-preserved c = let more = joined-more (λ j. (c.args.first + j) % 256 ∷ []) c.loop-j.j in grind (arith, common_steps)
