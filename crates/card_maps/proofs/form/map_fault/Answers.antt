use Rattle.std.proofs.Common.{sym, ◌∙◌, arith}
use Rattle.card_maps.specs.Form.{is_map_byte}
use Rattle.card_maps.proofs.Faults.{wrong_at}
use Rattle.card_maps.proofs.Ranges.{wrong_none}
use Rattle.card_maps.proofs.form.map_fault.Goals as goal

pub returns-then-not-is_map_byte : goal.returns-then-not-is_map_byte
returns-then-not-is_map_byte c =
    sym (wrong_at (is_map_byte c.args.block.now) 0 256 c.loop-at.at (omega arith) (omega arith) c.loop-at.invariant (sym c.is_map_byte.ensures ∙ c.if-not-is_map_byte.true))

pub returns : goal.returns
returns c = sym (wrong_none (is_map_byte c.args.block.now) 0 256 (λ k ge lt. c.loop-at.invariant k ge (omega (arith, lt))))
