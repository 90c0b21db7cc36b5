-- What a comparison of bytes tells.
use Rattle.std.proofs.Common.{◌≡◌, ℕ, Bool, true, false, List, Result, Ok, Err, MatchResult, is_ok, refl, sym}
use Rattle.std.specs.Str.{bytes_eq}
use Rattle.std.proofs.lemmas.Slice.Eq.{bytes_eq-Decides}

is_false : (b : Bool) → (b ≡ true → ⊥) → b ≡ false
is_false true h = absurd (h refl)
is_false false h = refl

pub bytes_eq-same : (xs ys : List ℕ) → xs ≡ ys → bytes_eq xs ys ≡ true
bytes_eq-same xs ys h = (bytes_eq-Decides xs ys).1 h

pub bytes_eq-other : (xs ys : List ℕ) → (xs ≡ ys → ⊥) → bytes_eq xs ys ≡ false
bytes_eq-other xs ys h = is_false (bytes_eq xs ys) (λ b. h ((bytes_eq-Decides xs ys).0 b))

-- a result that is Ok exactly where two lists are equal
pub is_ok-bytes_eq : {T E : Type 0} (r : Result T E) (xs ys : List ℕ) (Q : E → Type 0)
    → MatchResult r (λ _. xs ≡ ys) (λ e. (xs ≡ ys → ⊥) × Q e) → is_ok r ≡ bytes_eq xs ys
is_ok-bytes_eq (Ok x) xs ys Q h = sym (bytes_eq-same xs ys h)
is_ok-bytes_eq (Err e) xs ys Q h = sym (bytes_eq-other xs ys h.0)
