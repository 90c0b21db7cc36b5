-- That no bit differs says that two lists of bytes are equal.
use Rattle.std.proofs.Common.{◌≡◌, ℕ, ◌+◌, ◌<◌, List, length, get_or, bit_or, bit_xor, refl, sym, ap, subst, ◌∙◌, inl, inr, arith}
use Rattle.std.specs.Int.Bits.{xor_assoc, xor_self, xor_zero_l, xor_zero_r}
use Rattle.std.specs.Str.{bytes_eq}
use Rattle.std.proofs.lemmas.Bool.{cases_eq, cases_lt, eq-eqb, false_from_ne_true, ne_eqb}
use Rattle.std.proofs.lemmas.Nat.{le_or_l, le_or_r}
use Rattle.std.proofs.lemmas.Slice.Eq.{bytes_eq-Decides}
use Rattle.std.proofs.lemmas.List.{ext_get_or}
use lib.Dec.{eqb}

xor_none : (a b : ℕ) → bit_xor a b ≡ 0 → a ≡ b
xor_none a b none =
    sym (xor_zero_r a) ∙ ap (bit_xor a) (sym (xor_self b)) ∙ sym (xor_assoc a b b) ∙ ap (λ x. bit_xor x b) none ∙ xor_zero_l b

-- no bit differs among the first i bytes
pub record NoneDiffers (a b : List ℕ) (i differ : ℕ) : Type 0 where
  pub none : differ ≡ 0 → (k : ℕ) → k < i → get_or a k 0 ≡ get_or b k 0
  pub same : a ≡ b → differ ≡ 0

pub none_at_first : (a b : List ℕ) → NoneDiffers a b 0 0
none_at_first a b = record { none = λ _ k lt. absurd (omega (arith, lt)); same = λ _. refl }

pub one_more : (a b : List ℕ) (i differ : ℕ) → NoneDiffers a b i differ
    → NoneDiffers a b (i + 1) (bit_or differ (bit_xor (get_or a i 0) (get_or b i 0)))
one_more a b i differ before = record {
  none = λ none k lt. elim (cases_lt k i) [
    | inl low ↦ before.none (omega (arith, le_or_l differ x, none)) k low
    | inr high ↦ subst (λ j. get_or a j 0 ≡ get_or b j 0) (omega (arith, lt, high)) (xor_none (get_or a i 0) (get_or b i 0) (omega (arith, le_or_r differ x, none)))
  ];
  same = λ is. ap (λ d. bit_or d x) (before.same is) ∙ ap (λ c. bit_xor (get_or c i 0) (get_or b i 0)) is ∙ xor_self (get_or b i 0);
}
  where
    x : ℕ
    x = bit_xor (get_or a i 0) (get_or b i 0)

pub equal_is : (a b : List ℕ) (n differ : ℕ) → length a ≡ n → length b ≡ n → NoneDiffers a b n differ → eqb differ 0 ≡ bytes_eq a b
equal_is a b n differ la lb upto = elim (cases_eq differ 0) [
  | inl none ↦ eq-eqb differ 0 none ∙ sym ((bytes_eq-Decides a b).1 (ext_get_or 0 a b (la ∙ sym lb) (λ k lt. upto.none none k (omega (arith, lt, la)))))
  | inr some ↦ ne_eqb differ 0 some ∙ sym (false_from_ne_true (bytes_eq a b) (λ same. some (upto.same ((bytes_eq-Decides a b).0 same))))
]
