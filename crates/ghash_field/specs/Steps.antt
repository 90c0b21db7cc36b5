-- How a product of blocks is computed.
use Rattle.std.specs.Prelude.{ℕ, ◌*◌, ◌/◌, ◌%◌, ◌^◌, bit_xor}
use Rattle.ghash_field.specs.Field.{block_product}

-- a block times the polynomial x
unfoldable pub block_step : ℕ → ℕ
block_step v = bit_xor (v / 2) (v % 2 * (0xe1 * 2 ^ 120))

-- a polynomial of 256 terms with its greatest bit for x ^ 0, reduced to a block: the upper half has
-- the terms below x ^ 128, and the lower half those that are x ^ 128 times the lower half's block
unfoldable pub folded : ℕ → ℕ
folded z = bit_xor (z / 2 ^ 128) (block_product (z % 2 ^ 128) (0xe1 * 2 ^ 120))
