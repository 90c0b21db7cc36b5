use Rattle.std.proofs.Common.{◌==◌, ◌+◌, ◌-◌, ℕ, List, sym, ◌∙◌, arith}
use Rattle.card_maps.specs.Form.{byte_at, data_blocks, size_in}
use Rattle.card_maps.proofs.Faults.{wrong_at}
use Rattle.card_maps.proofs.Ranges.{wrong_none}
use Rattle.card_maps.proofs.form.rest_fault.Goals as goal

pub returns-then-not-is_zero : goal.returns-then-not-is_zero
returns-then-not-is_zero c =
    let block : List ℕ = c.args.block.now in
    sym (wrong_at (λ at. byte_at c.args.block.now at == 0) (84 + data_blocks (size_in c.args.block.now)) (172 - data_blocks (size_in c.args.block.now)) c.loop-at.at (omega arith) (omega arith) c.loop-at.invariant
    (sym c.is_zero.ensures ∙ c.if-not-is_zero.true))

pub returns : goal.returns
returns c =
    sym (wrong_none (λ at. byte_at c.args.block.now at == 0) (84 + data_blocks (size_in c.args.block.now)) (172 - data_blocks (size_in c.args.block.now)) (λ k ge lt. c.loop-at.invariant k ge (omega (arith, lt))))
