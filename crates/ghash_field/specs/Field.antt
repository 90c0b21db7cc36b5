-- The field of 2 ^ 128 elements on blocks (SP 800-38D, 6.3). A block of 16 bytes is a number whose
-- greatest byte is the block's first; the sum of two blocks is `bit_xor`.
use Rattle.std.specs.Prelude.{ℕ, zero, suc, ◌-◌, ◌^◌}
use Rattle.std.specs.Int.{bit_at}
use Rattle.ghash_field.specs.Polynomial.{from_coefficients, product, remainder}

-- a block's polynomial, or a polynomial's block: the block's leftmost bit, which is bit 127 of its
-- number, is the coefficient of x ^ 0
unfoldable pub reflected : ℕ → ℕ
reflected n = from_coefficients (λ i. bit_at n (127 - i)) 128

-- X • Y
unfoldable pub block_product : ℕ → ℕ → ℕ
block_product x y = reflected (remainder (product (reflected x) (reflected y)) 127)

-- H ^ k. H ^ 0 is the polynomial 1.
unfoldable pub block_power : ℕ → ℕ → ℕ
block_power h zero = 2 ^ 127
block_power h (suc k) = block_product (block_power h k) h
