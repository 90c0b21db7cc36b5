use Rattle.std.proofs.Common.{arith}
use Rattle.known_answers.proofs.Shapes.{five_words, four_parts, fifth_array}
use Rattle.known_answers.proofs.arguments.parts_and_tag.Goals as goal

pub returns-clause-value : goal.returns-clause-value
returns-clause-value c = (
  five_words c.args.words.now c.in-len5.len_at_least c.in-len5.len_below,
  four_parts c.args.words.now _ _ _ _ _ (omega (arith, c.in-len5.len_at_least)) c.in_ok-parts_of.ensures.value,
  fifth_array c.args.words.now _ _ c.in-len5.len_at_least c.in_ok-array_of.ensures.value,
)
