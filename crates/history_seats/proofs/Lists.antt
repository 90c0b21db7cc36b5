-- Tests, lists of seats, and maps of numbers.
use Rattle.std.proofs.Common.{◌≡◌, ◌≢◌, ◌⊎◌, ℕ, zero, suc, ◌==◌, List, [], ◌∷◌, ◌++◌, length, set, Bool, true, false, true≢false, cond, not, ◌&&◌, ◌||◌, Option, Some, None, refl, sym, ap, ◌∙◌, inl, inr, ⊎_elim, eq-eqb, ne_eqb}
use mathlib.Core.Option.{some, some-ne-none, some-injective}
use lib.ListN.{get_elem?}

pub either_bool : (b : Bool) → (b ≡ true) ⊎ (b ≡ false)
either_bool true = inl refl
either_bool false = inr refl

pub and_parts : (a b : Bool) → (a && b) ≡ true → (a ≡ true) × (b ≡ true)
and_parts true b e = (refl, e)
and_parts false b e = absurd (true≢false (sym e))

pub both_true : (a b : Bool) → a ≡ true → b ≡ true → (a && b) ≡ true
both_true a b e d = rw (e, d) refl

pub or_left : (a b : Bool) → a ≡ true → (a || b) ≡ true
or_left a b e = rw e refl

pub or_right : (a b : Bool) → b ≡ true → (a || b) ≡ true
or_right true b e = refl
or_right false b e = e

pub or_false : (a b : Bool) → a ≡ false → b ≡ false → (a || b) ≡ false
or_false a b e d = rw (e, d) refl

pub neither : (a b : Bool) → (a || b) ≡ false → (a ≡ false) × (b ≡ false)
neither true b e = absurd (true≢false e)
neither false b e = (refl, e)

pub or_second : (a b : Bool) → (a || b) ≡ true → a ≡ false → b ≡ true
or_second a b e d = sym (rw d refl) ∙ e

pub or_kept : (a b c : Bool) → (a || b) ≡ true → (b ≡ true → c ≡ true) → (a || c) ≡ true
or_kept true b c e f = refl
or_kept false b c e f = f e

pub was_false : (b : Bool) → not b ≡ true → b ≡ false
was_false true e = absurd (true≢false (sym e))
was_false false e = refl

pub no_some : {A : Type 0} (x : A) → None ≡ Some x → ⊥
no_some x e = cc

pub none_or_some : {A : Type 0} (x : A) (o : Option A) → o ≡ None → o ≡ Some x → ⊥
none_or_some x o n e = no_some x (sym n ∙ e)

-- what is at a place where one more came
pub at_snoc : {A : Type 0} (l : List A) (a b : A) (j : ℕ) → get_elem? (l ++ a ∷ []) j ≡ some b → (get_elem? l j ≡ some b) ⊎ ((j ≡ length l) × (a ≡ b))
at_snoc [] a b zero e = inr (refl, some-injective a b e)
at_snoc [] a b (suc j) e = absurd (some-ne-none b (sym e))
at_snoc (x ∷ xs) a b zero e = inl e
at_snoc (x ∷ xs) a b (suc j) e = ⊎_elim inl (λ t. inr (ap suc t.0, t.1)) (at_snoc xs a b j e)

pub at_front : {A : Type 0} (l : List A) (a b : A) (j : ℕ) → get_elem? l j ≡ some b → get_elem? (l ++ a ∷ []) j ≡ some b
at_front [] a b j e = absurd (some-ne-none b (sym e))
at_front (x ∷ xs) a b zero e = e
at_front (x ∷ xs) a b (suc j) e = at_front xs a b j e

pub at_last : {A : Type 0} (l : List A) (a : A) → get_elem? (l ++ a ∷ []) (length l) ≡ some a
at_last [] a = refl
at_last (x ∷ xs) a = at_last xs a

-- what is at a place that was set
pub at_set_here : {A : Type 0} (l : List A) (j : ℕ) (a b : A) → get_elem? l j ≡ some a → get_elem? (set l j b) j ≡ some b
at_set_here [] j a b e = absurd (some-ne-none a (sym e))
at_set_here (x ∷ xs) zero a b e = refl
at_set_here (x ∷ xs) (suc j) a b e = at_set_here xs j a b e

-- a map of numbers with one other entry
abbrev pub put : (ℕ → Option ℕ) → ℕ → Option ℕ → ℕ → Option ℕ
put m k x n = cond (n == k) x (m n)

pub put_here : (m : ℕ → Option ℕ) (k : ℕ) (x : Option ℕ) (n : ℕ) → n ≡ k → put m k x n ≡ x
put_here m k x n e = rw (eq-eqb n k e) refl

pub put_else : (m : ℕ → Option ℕ) (k : ℕ) (x : Option ℕ) (n : ℕ) → n ≢ k → put m k x n ≡ m n
put_else m k x n e = rw (ne_eqb n k e) refl
