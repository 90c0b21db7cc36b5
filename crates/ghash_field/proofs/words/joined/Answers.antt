use Rattle.std.proofs.Common.{◌≡◌, ℕ, ◌*◌, ◌%◌, ◌^◌, ◌<◌, bit_xor, arith}
use Rattle.std.proofs.lemmas.Nat.{shl_whole, xor_lt}
use Rattle.ghash_field.specs.Words.{joined}
use Rattle.ghash_field.proofs.words.joined.Goals as goal

pub returns : goal.returns
unfolding joined
returns c =
    let low : ℕ = c.args.low in
    let high : ℕ = c.args.high in
    let middle : ℕ = bit_xor (bit_xor low high) c.args.both in
    let short : middle < 2 ^ 64 = xor_lt 64 _ _ (xor_lt 64 _ _ c.ranges.low.fits c.ranges.high.fits) c.ranges.both.fits in
    let first : middle * 2 ^ 32 % 2 ^ 128 ≡ middle * 2 ^ 32 = shl_whole middle 64 32 128 short (omega arith) in
    let second : high * 2 ^ 64 % 2 ^ 128 ≡ high * 2 ^ 64 = shl_whole high 64 64 128 c.ranges.high.fits (omega arith) in
    λ i. bit_xor (bit_xor low (first i)) (second i)
