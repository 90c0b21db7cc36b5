-- The field GF(2^8) of FIPS 197, section 4; here and in the other files sections are numbered as in its
-- edition of 2023. A byte is the polynomial over GF(2) whose coefficient of
-- x^i is bit i. The sum of two is `bit_xor` (4.1); their product is taken modulo
-- x^8 + x^4 + x^3 + x + 1 (4.2).
use Rattle.std.specs.Prelude.{ℕ, zero, suc, ◌+◌, ◌*◌, ◌^◌, true, false, ◌==◌, bit_xor}
use Rattle.std.specs.Int.{bit_at}

-- the product of two polynomials, of the second only the n lowest coefficients
unfoldable pub polynomial_times : ℕ → ℕ → ℕ → ℕ
polynomial_times a b zero = 0
polynomial_times a b (suc n) = bit_xor (polynomial_times a b n) (bit_at b n * (a * 2 ^ n))

-- the remainder of a polynomial of a degree below 8 + n modulo x^8 + x^4 + x^3 + x + 1
unfoldable pub remainder : ℕ → ℕ → ℕ
remainder p zero = p
remainder p (suc n) = remainder (bit_xor p (bit_at p (8 + n) * (0x11b * 2 ^ n))) n

-- the product in the field (4.2)
unfoldable pub field_times : ℕ → ℕ → ℕ
field_times a b = remainder (polynomial_times a b 8) 8

-- the byte below n whose product with b is 1, and 0 where there is none
unfoldable pub inverse_below : ℕ → ℕ → ℕ
inverse_below b zero = 0
inverse_below b (suc n) = elim (field_times b n == 1) [
  | true ↦ n
  | false ↦ inverse_below b n
]

-- the multiplicative inverse (4.4), and 0 of 0
unfoldable pub inverse : ℕ → ℕ
inverse b = inverse_below b 256
