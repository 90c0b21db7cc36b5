-- The test of two rows of bytes tells whether they are equal.
use Rattle.std.proofs.Common.{◌≡◌, ◌≢◌, inl, inr, ℕ, List, Bool, true, false, not, sym, ◌∙◌, ap}
use Rattle.std.proofs.lemmas.Bool.{cases_Bool, false≢true}
use Rattle.std.proofs.lemmas.Slice.Eq.{bytes_eq-Decides}
use Rattle.std.specs.Str.{bytes_eq}

pub same_from : (a b : List ℕ) → a ≡ b → bytes_eq a b ≡ true
same_from a b is = (bytes_eq-Decides a b).1 is

pub same_is : (a b : List ℕ) → bytes_eq a b ≡ true → a ≡ b
same_is a b same = (bytes_eq-Decides a b).0 same

pub same_not : (a b : List ℕ) → a ≢ b → bytes_eq a b ≡ false
same_not a b other = elim (cases_Bool (bytes_eq a b)) [
  | inl same ↦ absurd (other (same_is a b same))
  | inr differ ↦ differ
]

pub not_same : (a b : List ℕ) → bytes_eq a b ≡ false → a ≢ b
not_same a b differ = λ is. false≢true (sym differ ∙ same_from a b is)

-- what `!=` answers
pub unequal_is : (a b : List ℕ) (answer : Bool) → answer ≡ not (bytes_eq a b) → answer ≡ false → a ≡ b
unequal_is a b answer tested none = elim (cases_Bool (bytes_eq a b)) [
  | inl same ↦ same_is a b same
  | inr differ ↦ absurd (false≢true (sym none ∙ tested ∙ ap not differ))
]

pub unequal_not : (a b : List ℕ) (answer : Bool) → answer ≡ not (bytes_eq a b) → answer ≡ true → a ≢ b
unequal_not a b answer tested some = λ is. false≢true (sym (ap not (same_from a b is)) ∙ sym tested ∙ some)
