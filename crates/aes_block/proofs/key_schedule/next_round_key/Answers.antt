use Rattle.std.proofs.Common.{ℕ, ◌+◌, ap, ◌∙◌, bit_xor, arith}
use Rattle.aes_block.specs.Planes.{byte_at}
use Rattle.aes_block.proofs.KeyPlanes.{IsSum, next_key}
use Rattle.aes_block.proofs.key_schedule.next_round_key.Goals as goal

pub returns-clause-value : goal.returns-clause-value
returns-clause-value c = λ t low.
    let x : ℕ → ℕ = byte_at c.args.x t in
    let g : ℕ → ℕ = byte_at c.stirred_planes-stirred.result t in
    let two : IsSum x g (byte_at c.xor_planes-one.result t) (byte_at c.xor_planes-two.result t) = record {
      first = λ j lt. c.xor_planes-two.ensures.value t j low (omega arith) ∙ ap (bit_xor (x j)) (c.next_columns.ensures.first t j low lt);
      rest = λ j lt. c.xor_planes-two.ensures.value t (4 + j) low (omega arith) ∙ ap (bit_xor (x (4 + j))) (c.next_columns.ensures.rest t j low lt);
    } in
    let three : IsSum x g (byte_at c.xor_planes-two.result t) (byte_at c.xor_planes-three.result t) = record {
      first = λ j lt. c.xor_planes-three.ensures.value t j low (omega arith) ∙ ap (bit_xor (x j)) (c.next_columns-2.ensures.first t j low lt);
      rest = λ j lt. c.xor_planes-three.ensures.value t (4 + j) low (omega arith) ∙ ap (bit_xor (x (4 + j))) (c.next_columns-2.ensures.rest t j low lt);
    } in
    let four : IsSum x g (byte_at c.xor_planes-three.result t) (byte_at c.xor_planes.result t) = record {
      first = λ j lt. c.xor_planes.ensures.value t j low (omega arith) ∙ ap (bit_xor (x j)) (c.next_columns-3.ensures.first t j low lt);
      rest = λ j lt. c.xor_planes.ensures.value t (4 + j) low (omega arith) ∙ ap (bit_xor (x (4 + j))) (c.next_columns-3.ensures.rest t j low lt);
    } in
    next_key x g _ _ _ _ c.args.constant (λ j lt. c.stirred_planes-stirred.ensures.value t j low lt)
    (λ j lt. c.xor_planes-one.ensures.value t j low (omega arith)) two three four
