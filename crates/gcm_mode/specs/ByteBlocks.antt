-- Lists of bytes as blocks of 16, and GHASH of them (SP 800-38D, 6.4).
use Rattle.std.specs.Prelude.{ℕ, zero, suc, ◌-◌, ◌*◌, ◌/◌, ◌%◌, List, [], ◌∷◌, ◌++◌, length, take, drop, replicate}
use Rattle.std.specs.Int.{w128, from_be_bytes, to_be_bytes}
use Rattle.ghash_field.specs.Ghash.{ghash}

-- the bytes, then zero bytes up to whole blocks
unfoldable pub padded : List ℕ → List ℕ
padded bytes = bytes ++ replicate ((16 - length bytes % 16) % 16) 0

-- the numbers of the first n blocks
unfoldable pub first_blocks : List ℕ → ℕ → List ℕ
first_blocks bytes zero = []
first_blocks bytes (suc n) = first_blocks bytes n ++ from_be_bytes w128 (take 16 (drop (n * 16) bytes)) ∷ []

-- the numbers of the blocks of a list of whole blocks
unfoldable pub blocks : List ℕ → List ℕ
blocks bytes = first_blocks bytes (length bytes / 16)

-- GHASH, under the hash subkey h, of a list of whole blocks
abbrev pub ghash_bytes : ℕ → List ℕ → List ℕ
ghash_bytes h bytes = to_be_bytes w128 (ghash h (blocks bytes))
