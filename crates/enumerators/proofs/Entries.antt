-- Look-ups, changes and removals by number, at the place of the first entry of that number.
use Rattle.std.proofs.Common.{◌≡◌, ◌==◌, ◌<◌, ℕ, true, false, cond, List, [], ◌∷◌, length, None, Some, IsSome, slice_get, get_or, suc, zero, eq-eqb, refl, sym, ap, ◌∙◌, arith}
use Rattle.std.specs.Option.{option_map}
use Rattle.std.specs.Map.{lookup, set_value, remove_entry}
use Rattle.enumerators.specs.Places.{IsPlaceOf}

-- none of the first i entries has that number
abbrev pub NoneBelow : {X : Type 0} → ℕ → List (ℕ × X) → ℕ → Type 0
NoneBelow {X} number entries i = (k : ℕ) → k < i → (d : ℕ × X) → ((get_or entries k d).0 == number) ≡ false

pub lookup_none : {X : Type 0} (number : ℕ) (entries : List (ℕ × X)) → NoneBelow number entries (length entries) → lookup (λ n. n == number) entries ≡ None
lookup_none number [] h = refl
lookup_none number (e ∷ entries) h =
    ap (λ b. cond b (Some e.1) (lookup (λ n. n == number) entries)) (h zero (omega arith) e)
    ∙ lookup_none number entries (λ k lt. h (suc k) (omega arith))

pub IsPlaceOf-first : {X : Type 0} (number : ℕ) (entries : List (ℕ × X)) (i : ℕ) (x : ℕ × X) → i < length entries → x ≡ get_or entries i x → x.0 ≡ number → NoneBelow number entries i → IsPlaceOf number entries i
IsPlaceOf-first number [] i x lt at same h = absurd (omega arith)
IsPlaceOf-first number (e ∷ entries) zero x lt at same h =
    let here : e.0 ≡ number = ap (λ p. p.0) (sym at) ∙ same in
    let test : (e.0 == number) ≡ true = eq-eqb e.0 number here in record {
      within = lt;
      found = ap (λ b. cond b (Some e.1) (lookup (λ n. n == number) entries)) test;
      changed = λ w. ap (λ b. cond b ((e.0, w) ∷ entries) (e ∷ set_value (λ n. n == number) entries w)) test ∙ ap (λ m. (m, w) ∷ entries) here;
      removed = ap (λ b. cond b entries (e ∷ remove_entry (λ n. n == number) entries)) test;
    }
IsPlaceOf-first number (e ∷ entries) (suc i) x lt at same h =
    let rest = IsPlaceOf-first number entries i x (omega arith) at same (λ k below. h (suc k) (omega arith)) in
    let test : (e.0 == number) ≡ false = h zero (omega arith) e in record {
      within = lt;
      found = ap (λ b. cond b (Some e.1) (lookup (λ n. n == number) entries)) test ∙ rest.found;
      changed = λ w. ap (λ b. cond b ((e.0, w) ∷ entries) (e ∷ set_value (λ n. n == number) entries w)) test ∙ ap (λ es. e ∷ es) (rest.changed w);
      removed = ap (λ b. cond b entries (e ∷ remove_entry (λ n. n == number) entries)) test ∙ ap (λ es. e ∷ es) rest.removed;
    }

-- an entry at a place is found
pub IsSome-lookup : {X : Type 0} (number : ℕ) (entries : List (ℕ × X)) (i : ℕ) → IsPlaceOf number entries i → IsSome (lookup (λ n. n == number) entries)
IsSome-lookup {X} number entries i place = rw place.found (within entries i place.within)
  where
    within : (entries : List (ℕ × X)) (i : ℕ) → i < length entries → IsSome (option_map (λ e. e.1) (slice_get entries i))
    within [] i lt = absurd (omega arith)
    within (e ∷ entries) zero lt = refl
    within (e ∷ entries) (suc i) lt = within entries i (omega arith)
