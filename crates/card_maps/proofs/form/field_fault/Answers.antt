use Rattle.std.proofs.Common.{sym, ◌∙◌, arith}
use Rattle.card_maps.specs.Form.{is_field}
use Rattle.card_maps.proofs.Faults.{wrong_at}
use Rattle.card_maps.proofs.Ranges.{wrong_none}
use Rattle.card_maps.proofs.form.field_fault.Goals as goal

pub returns-then-not-is_field : goal.returns-then-not-is_field
returns-then-not-is_field c =
    sym (wrong_at (is_field c.args.block.now) 80 3 c.loop-at.at (omega arith) (omega arith) c.loop-at.invariant (sym c.is_field.ensures ∙ c.if-not-is_field.true))

pub returns : goal.returns
returns c = sym (wrong_none (is_field c.args.block.now) 80 3 (λ k ge lt. c.loop-at.invariant k ge (omega (arith, lt))))
