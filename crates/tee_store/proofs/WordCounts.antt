-- The command of two, three and four words.
use Rattle.std.proofs.Common.{◌≡◌, ◌<◌, ◌≤◌, ℕ, List, [], ◌∷◌, length, map, get_or, ap, arith}
use Rattle.tee_store.specs.Verbs.{folder_verb, object_verb, pair_verb, verb_of}

module _ {A : Type 0} (text : A → List ℕ) where
  pub of_two : (words : List A) (verb : A) → 2 ≤ length words → length words < 3 → verb ≡ get_or words 0 verb → folder_verb (text verb) ≡ verb_of (map text words)
  of_two [] verb least below is = absurd (omega (arith, least))
  of_two (a ∷ []) verb least below is = absurd (omega (arith, least))
  of_two (a ∷ b ∷ []) verb least below is = ap (λ v. folder_verb (text v)) is
  of_two (a ∷ b ∷ c ∷ rest) verb least below is = absurd (omega (arith, below))

  pub of_three : (words : List A) (verb : A) → 3 ≤ length words → length words < 4 → verb ≡ get_or words 0 verb → object_verb (text verb) ≡ verb_of (map text words)
  of_three [] verb least below is = absurd (omega (arith, least))
  of_three (a ∷ []) verb least below is = absurd (omega (arith, least))
  of_three (a ∷ b ∷ []) verb least below is = absurd (omega (arith, least))
  of_three (a ∷ b ∷ c ∷ []) verb least below is = ap (λ v. object_verb (text v)) is
  of_three (a ∷ b ∷ c ∷ d ∷ rest) verb least below is = absurd (omega (arith, below))

  pub of_four : (words : List A) (verb : A) → 4 ≤ length words → length words < 5 → verb ≡ get_or words 0 verb → pair_verb (text verb) ≡ verb_of (map text words)
  of_four [] verb least below is = absurd (omega (arith, least))
  of_four (a ∷ []) verb least below is = absurd (omega (arith, least))
  of_four (a ∷ b ∷ []) verb least below is = absurd (omega (arith, least))
  of_four (a ∷ b ∷ c ∷ []) verb least below is = absurd (omega (arith, least))
  of_four (a ∷ b ∷ c ∷ d ∷ []) verb least below is = ap (λ v. pair_verb (text v)) is
  of_four (a ∷ b ∷ c ∷ d ∷ e ∷ rest) verb least below is = absurd (omega (arith, below))
