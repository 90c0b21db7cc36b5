-- The S-box of FIPS 197 (5.1.1) and its inverse (5.3.2).
use Rattle.std.specs.Prelude.{ℕ, zero, suc, ◌+◌, ◌*◌, ◌^◌, ◌%◌}
use Rattle.std.specs.Int.{bit_at}
use Rattle.aes_block.specs.Field.{inverse}

-- the number of n bits, bit i from f i
unfoldable pub from_bits_of : (ℕ → ℕ) → ℕ → ℕ
from_bits_of f zero = 0
from_bits_of f (suc n) = from_bits_of f n + f n * 2 ^ n

-- bit i of the affine map at b
abbrev pub affine_bit : ℕ → ℕ → ℕ
affine_bit b i =
    (bit_at b i + bit_at b ((i + 4) % 8) + bit_at b ((i + 5) % 8) + bit_at b ((i + 6) % 8)
    + bit_at b ((i + 7) % 8) + bit_at 0x63 i) % 2

-- the affine map at the inverse
unfoldable pub s_box : ℕ → ℕ
s_box b = from_bits_of (affine_bit (inverse b)) 8

-- bit i of the inverse affine map at b
abbrev pub inv_affine_bit : ℕ → ℕ → ℕ
inv_affine_bit b i =
    (bit_at b ((i + 2) % 8) + bit_at b ((i + 5) % 8) + bit_at b ((i + 7) % 8) + bit_at 0x05 i) % 2

abbrev pub inv_affine : ℕ → ℕ
inv_affine b = from_bits_of (inv_affine_bit b) 8

-- the inverse at the inverse affine map
unfoldable pub inv_s_box : ℕ → ℕ
inv_s_box b = inverse (inv_affine b)
