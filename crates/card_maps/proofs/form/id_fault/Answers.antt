use Rattle.std.proofs.Common.{sym, ◌∙◌, arith}
use Rattle.card_maps.specs.Form.{is_id_byte}
use Rattle.card_maps.proofs.Faults.{wrong_at}
use Rattle.card_maps.proofs.Ranges.{wrong_none}
use Rattle.card_maps.proofs.form.id_fault.Goals as goal

pub returns-then-not-is_id_byte : goal.returns-then-not-is_id_byte
returns-then-not-is_id_byte c =
    sym (wrong_at (is_id_byte c.args.block.now) 16 64 c.loop-at.at (omega arith) (omega arith) c.loop-at.invariant (sym c.is_id_byte.ensures ∙ c.if-not-is_id_byte.true))

pub returns : goal.returns
returns c = sym (wrong_none (is_id_byte c.args.block.now) 16 64 (λ k ge lt. c.loop-at.invariant k ge (omega (arith, lt))))
