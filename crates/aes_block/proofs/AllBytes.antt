-- Facts on all bytes, each by one test that computes.
use Rattle.std.proofs.Common.{◌≡◌, ℕ, zero, suc, ◌<◌, List, [], ◌∷◌, map, get_or, slice_index, refl, sym, ap, ◌∙◌, arith, bit_xor}
use Rattle.std.specs.Prelude.{true}
use Rattle.std.specs.List.{list_all, range_with_len}
use Rattle.std.proofs.Math.Dec.{ltb}
use Rattle.std.proofs.lemmas.Bool.{and_parts, ltb-true}
use Rattle.std.proofs.lemmas.List.FromFn.{get_or-map-range_with_len}
use Rattle.aes_block.specs.Field.{field_times, polynomial_times, remainder}

abbrev pub values : (ℕ → ℕ) → List ℕ
values f = map f (range_with_len 0 256)

-- a table of f's values, read at a byte
pub at_byte : (f : ℕ → ℕ) (xs : List ℕ) → values f ≡ xs → (b : ℕ) → b < 256 → slice_index xs b ≡ f b
at_byte f xs e b h = ap (λ (ys : List ℕ). get_or ys b 0) (sym e) ∙ get_or-map-range_with_len f 0 256 b b 0 h (omega arith)

-- two functions with the same values, at a byte
pub same_at_byte : (f g : ℕ → ℕ) → values f ≡ values g → (b : ℕ) → b < 256 → f b ≡ g b
same_at_byte f g e b h = sym (at_byte f (values f) refl b h) ∙ at_byte g (values f) (sym e) b h

-- a list's elements are below n, by a test
pub below_all : (n : ℕ) (xs : List ℕ) → 0 < n → list_all (λ x. ltb x n) xs ≡ true → (i : ℕ) → slice_index xs i < n
below_all n [] h e i = h
below_all n (x ∷ xs) h e zero = ltb-true x n ((and_parts (ltb x n) (list_all (λ x. ltb x n) xs) e).0)
below_all n (x ∷ xs) h e (suc i) = below_all n xs h ((and_parts (ltb x n) (list_all (λ x. ltb x n) xs) e).1) i

tripled-all : values (λ b. bit_xor (field_times 2 b) b) ≡ values (field_times 3)
unfolding polynomial_times remainder field_times
tripled-all = refl

pub triple_is : (b : ℕ) → b < 256 → bit_xor (field_times 2 b) b ≡ field_times 3 b
triple_is = same_at_byte (λ b. bit_xor (field_times 2 b) b) (field_times 3) tripled-all

once-all : values (field_times 1) ≡ values (λ b. b)
unfolding polynomial_times remainder field_times
once-all = refl

pub times_one : (b : ℕ) → b < 256 → field_times 1 b ≡ b
times_one = same_at_byte (field_times 1) (λ b. b) once-all
