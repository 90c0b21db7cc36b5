use Rattle.std.proofs.Common.{◌≡◌, arith}
use Rattle.std.specs.Prelude.{vec_len}
use Rattle.std.proofs.lemmas.Grind.{common_steps}
use Rattle.std.proofs.lemmas.Bool.{and_left, and_right}
use Rattle.known_answers.specs.Forms.{are_parts}
use Rattle.known_answers.proofs.Forms.{iv_empty}
use Rattle.known_answers.proofs.question_lines.parts_of.Goals as goal

pub returns-then-is_empty-clause-form : goal.returns-then-is_empty-clause-form
unfolding are_parts
returns-then-is_empty-clause-form c =
    let h = c.is_empty.ensures in
    let k = c.if-is_empty.true in
    let none : vec_len c.in_ok-iv.field-0.bytes ≡ 0 = grind (arith, common_steps) in
    λ _. and_left _ _ (and_left _ _ (and_right _ _
    (iv_empty c.args.iv.now c.in_ok-iv.field-0.bytes.items c.in_ok-iv.ensures.value (omega (arith, c.in_ok-iv.field-0.bytes.ok)))))
