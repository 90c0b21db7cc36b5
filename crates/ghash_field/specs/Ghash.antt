-- GHASH (SP 800-38D, 6.4).
use Rattle.std.specs.Prelude.{ℕ, ◌+◌, List, [], ◌∷◌, length, bit_xor}
use Rattle.ghash_field.specs.Field.{block_product, block_power}

-- GHASH of blocks X 1, …, X m under the hash subkey H: X 1 • H ^ m + X 2 • H ^ (m - 1) + … + X m • H
unfoldable pub ghash : ℕ → List ℕ → ℕ
ghash h [] = 0
ghash h (x ∷ xs) = bit_xor (block_product x (block_power h (length xs + 1))) (ghash h xs)
