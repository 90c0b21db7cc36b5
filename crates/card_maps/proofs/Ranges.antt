-- Tests over ranges of numbers.
use Rattle.std.proofs.Common.{◌≡◌, ◌≢◌, ◌⊎◌, inl, inr, ℕ, zero, suc, ◌+◌, ◌<◌, ◌≤◌, ◌==◌, not, Bool, true, false, cond, List, [], ◌∷◌, Option, Some, None, refl, sym, ap, ◌∙◌, subst, true≢false, arith}
use Rattle.std.specs.Prelude.{nat_eq}
use Rattle.std.specs.List.{list_any, range_with_len}
use Rattle.std.specs.Cmp.Lexicographic.{pointwise}
use Rattle.std.proofs.lemmas.Bool.{false≢true, and_from, and_parts, cases_Bool, cases_lt, cond-true, cond-false, eq-eqb, eqb-true, or_from, or_parts}
use Rattle.store_model.specs.declared.name.ObjectName.{ObjectName}
use Rattle.store_model.specs.Name.{name_eq}
use Rattle.card_maps.specs.Form.{first_wrong, or_next}

pub not_false : (x : Bool) → not x ≡ true → x ≡ false
not_false true is = absurd (false≢true is)
not_false false is = refl

pub turned : (x : Bool) → x ≡ false → not x ≡ true
turned x is = ap not is

pub true_or : (x : Bool) → (x ≡ false → ⊥) → x ≡ true
true_or true nay = refl
true_or false nay = absurd (nay refl)

pub false_or : (x : Bool) → (x ≡ true → ⊥) → x ≡ false
false_or true nay = absurd (nay refl)
false_or false nay = refl

pub later : (a c : ℕ) → a ≤ c → (a ≡ c) ⊎ (a + 1 ≤ c)
later a c ge = elim (cases_lt a c) [
  | inl lt ↦ inr (omega (arith, lt))
  | inr le ↦ inl (omega (arith, ge, le))
]

module _ (p : ℕ → Bool) where
  pub any_none : (a n : ℕ) → ((c : ℕ) → a ≤ c → c < a + n → p c ≡ false) → list_any p (range_with_len a n) ≡ false
  any_none a zero each = refl
  any_none a (suc n) each =
      or_from (p a) (list_any p (range_with_len (a + 1) n)) (each a (omega arith) (omega arith)) (any_none (a + 1) n (λ c ge lt. each c (omega (arith, ge)) (omega (arith, lt))))

  pub none_any : (a n : ℕ) → list_any p (range_with_len a n) ≡ false → (c : ℕ) → a ≤ c → c < a + n → p c ≡ false
  none_any a zero none c ge lt = absurd (omega (arith, ge, lt))
  none_any a (suc n) none c ge lt =
      let both = or_parts (p a) (list_any p (range_with_len (a + 1) n)) none in
      elim (later a c ge) [
        | inl same ↦ subst (λ (k : ℕ). p k ≡ false) same both.0
        | inr more ↦ none_any (a + 1) n both.1 c more (omega (arith, lt))
      ]

  pub wrong_none : (at n : ℕ) → ((k : ℕ) → at ≤ k → k < at + n → p k ≡ true) → first_wrong p at n ≡ None
  unfolding first_wrong
  wrong_none at zero each = refl
  wrong_none at (suc n) each =
      cond-true (p at) (first_wrong p (at + 1) n) (Some at) (each at (omega arith) (omega arith)) ∙ wrong_none (at + 1) n (λ k ge lt. each k (omega (arith, ge)) (omega (arith, lt)))

  none_some : (at : ℕ) → (let o : Option ℕ = Some at in o ≡ None) → ⊥
  none_some at is = absurd (cc (is))

  pub none_wrong : (at n : ℕ) → first_wrong p at n ≡ None → (k : ℕ) → at ≤ k → k < at + n → p k ≡ true
  unfolding first_wrong
  none_wrong at zero none k ge lt = absurd (omega (arith, ge, lt))
  none_wrong at (suc n) none k ge lt = elim (cases_Bool (p at)) [
    | inr nay ↦ absurd (none_some at (sym (cond-false (p at) (first_wrong p (at + 1) n) (Some at) nay) ∙ none))
    | inl aye ↦ elim (later at k ge) [
      | inl same ↦ subst (λ (j : ℕ). p j ≡ true) same aye
      | inr more ↦ none_wrong (at + 1) n (sym (cond-true (p at) (first_wrong p (at + 1) n) (Some at) aye) ∙ none) k more (omega (arith, lt))
    ]
  ]

-- the first of two faults
pub next_none : (a b : Option ℕ) → a ≡ None → b ≡ None → or_next a b ≡ None
next_none None b first next = next
next_none (Some at) b first next = first

pub none_next : (a b : Option ℕ) → or_next a b ≡ None → (a ≡ None) × (b ≡ None)
none_next None b none = (refl, none)
none_next (Some at) b none = absurd (cc (none))

-- bytes and names that are alike are one
same_bytes : (xs ys : List ℕ) → pointwise nat_eq xs ys ≡ true → xs ≡ ys
same_bytes [] [] is = refl
same_bytes [] (y ∷ ys) is = absurd (false≢true is)
same_bytes (x ∷ xs) [] is = absurd (false≢true is)
same_bytes (x ∷ xs) (y ∷ ys) is =
    let both = and_parts (nat_eq x y) (pointwise nat_eq xs ys) is in
    λ i. eqb-true x y both.0 i ∷ same_bytes xs ys both.1 i

pub same_name : (a b : ObjectName) → name_eq a b ≡ true → a ≡ b
same_name a b is =
    let both = and_parts (pointwise nat_eq a.app b.app) (pointwise nat_eq a.id b.id) is in
    λ i. record { app = same_bytes a.app b.app both.0 i; id = same_bytes a.id b.id both.1 i }

itself : (n : ℕ) → nat_eq n n ≡ true
itself n = eq-eqb n n refl

self_bytes : (xs : List ℕ) → pointwise nat_eq xs xs ≡ true
self_bytes [] = refl
self_bytes (x ∷ xs) = and_from (nat_eq x x) (pointwise nat_eq xs xs) (itself x) (self_bytes xs)

pub self_name : (a : ObjectName) → name_eq a a ≡ true
self_name a = and_from (pointwise nat_eq a.app a.app) (pointwise nat_eq a.id a.id) (self_bytes a.app) (self_bytes a.id)

pub name_turned : (a b : ObjectName) → name_eq a b ≡ false → name_eq b a ≡ false
name_turned a b nay = false_or (name_eq b a) (λ aye. true≢false (sym (self_name a) ∙ ap (name_eq a) (sym (same_name b a aye)) ∙ nay))

pub not_same : (a b : ℕ) → (a == b) ≡ false → a ≢ b
not_same a b nay same = true≢false (sym (itself a) ∙ ap (λ (k : ℕ). a == k) same ∙ nay)

pub differ : (a b : ℕ) → a ≢ b → (a == b) ≡ false
differ a b nay = false_or (a == b) (λ aye. nay (eqb-true a b aye))
