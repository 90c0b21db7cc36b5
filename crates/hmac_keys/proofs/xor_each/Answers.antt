use Rattle.std.proofs.Common.{ℕ, map, bit_xor, sym, ◌∙◌, arith}
use Rattle.std.proofs.lemmas.List.{ext_get_or, get_or-map, length-map}
use Rattle.hmac_keys.proofs.xor_each.Goals as goal

pub returns : goal.returns
returns c =
    let pad : ℕ → ℕ = λ x. bit_xor x c.args.pad in
    ext_get_or 0 c.loop-byte.byte-items (map pad c.args.block.now)
    (c.loop-byte-test.array_long ∙ sym c.told-block ∙ sym (length-map c.args.block.now pad))
    (λ k lt. c.loop-byte.invariant.done k (omega (arith, c.loop-byte-test.array_long))
    ∙ sym (get_or-map pad c.args.block.now k 0 0 (omega (arith, c.loop-byte-test.array_long))))
