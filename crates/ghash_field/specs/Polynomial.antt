-- Polynomials over the field of two elements. A polynomial is a number: its bit i is the coefficient
-- of x ^ i. The sum of two is `bit_xor`.
use Rattle.std.specs.Prelude.{ℕ, zero, suc, ◌+◌, ◌-◌, ◌*◌, ◌%◌, ◌^◌, bit_xor}
use Rattle.std.specs.Int.{bit_at}

-- f 0 + f 1 + … + f (n - 1)
unfoldable pub sum_below : (ℕ → ℕ) → ℕ → ℕ
sum_below f zero = 0
sum_below f (suc n) = sum_below f n + f n

-- the polynomial of degree below n in which the coefficient of x ^ k is f k modulo 2
unfoldable pub from_coefficients : (ℕ → ℕ) → ℕ → ℕ
from_coefficients f zero = 0
from_coefficients f (suc n) = f n % 2 * 2 ^ n + from_coefficients f n

-- the coefficient of x ^ k in the product of p and q, before it is taken modulo 2: the sum, over
-- i + j = k, of the coefficient of x ^ i in p times that of x ^ j in q
abbrev pub coefficient_of_product : ℕ → ℕ → ℕ → ℕ
coefficient_of_product p q k = sum_below (λ i. bit_at p i * bit_at q (k - i)) (k + 1)

-- the product of two polynomials of degree below 128
unfoldable pub product : ℕ → ℕ → ℕ
product p q = from_coefficients (coefficient_of_product p q) 255

-- x ^ 128 + x ^ 7 + x ^ 2 + x + 1, the field's modulus (SP 800-38D, 6.3)
abbrev pub modulus : ℕ
modulus = 2 ^ 128 + 2 ^ 7 + 2 ^ 2 + 2 + 1

-- p less x ^ n times the modulus where p has the term x ^ (128 + n), which this takes away
abbrev pub without_term : ℕ → ℕ → ℕ
without_term p n = bit_xor p (bit_at p (128 + n) * (modulus * 2 ^ n))

-- the remainder, by the modulus, of a polynomial of degree below 128 + n: long division, from the
-- term x ^ (127 + n) down
unfoldable pub remainder : ℕ → ℕ → ℕ
remainder p zero = p
remainder p (suc n) = remainder (without_term p n) n
