-- Who has the seat of each number that is out.
use Rattle.std.proofs.Common.{◌≡◌, ◌≢◌, ℕ, ◌==◌, List, ◌∷◌, true, false, true≢false, Option, Some, None, refl, sym, ap, ◌∙◌, subst, ⊎_elim}
use Rattle.std.proofs.lemmas.Bool.Decides.{eqb_tells}
use Rattle.history_seats.specs.Numbers.{is_in, without}
use Rattle.history_seats.proofs.Lists.{or_left, or_right, none_or_some, put, put_here, put_else}
use Rattle.history_seats.proofs.Numbers.{is_in-without}

-- whoever has a seat is out
abbrev pub AllOut : (ℕ → Option ℕ) → List ℕ → Type 0
AllOut at numbers = (n seat : ℕ) → at n ≡ Some seat → is_in n numbers ≡ true

-- a number that is out is another than one that is not
pub other_than : (at : ℕ → Option ℕ) (numbers : List ℕ) (k n seat : ℕ) → AllOut at numbers → is_in k numbers ≡ false → at n ≡ Some seat → n ≢ k
other_than at numbers k n seat all new e = λ q. true≢false (sym (all n seat e) ∙ ap (λ (m : ℕ). is_in m numbers) q ∙ new)

-- a number that has a seat is another than one that has none
pub not_the_same : (at : ℕ → Option ℕ) (k n seat : ℕ) → at k ≡ None → at n ≡ Some seat → n ≢ k
not_the_same at k n seat free e = λ q. none_or_some seat (at n) (ap at q ∙ free) e

-- one more number is out, and has a seat
pub out-more : (at : ℕ → Option ℕ) (numbers : List ℕ) (k new : ℕ) → AllOut at numbers → AllOut (put at k (Some new)) (k ∷ numbers)
out-more at numbers k new all = λ n seat e.
    ⊎_elim
    (λ (y : ((k == n) ≡ true) × (k ≡ n)). or_left (k == n) (is_in n numbers) y.0)
    (λ (y : ((k == n) ≡ false) × (k ≢ n)). or_right (k == n) (is_in n numbers) (all n seat (sym (put_else at k (Some new) n (λ q. y.1 (sym q))) ∙ e)))
    (eqb_tells k n)

-- a number that is out gets a seat
pub out-again : (at : ℕ → Option ℕ) (numbers : List ℕ) (k new : ℕ) → is_in k numbers ≡ true → AllOut at numbers → AllOut (put at k (Some new)) numbers
out-again at numbers k new out all = λ n seat e.
    ⊎_elim
    (λ (y : ((n == k) ≡ true) × (n ≡ k)). subst (λ (m : ℕ). is_in m numbers ≡ true) (sym y.1) out)
    (λ (y : ((n == k) ≡ false) × (n ≢ k)). all n seat (sym (put_else at k (Some new) n y.1) ∙ e))
    (eqb_tells n k)

-- a number loses its seat
pub out-less : (at : ℕ → Option ℕ) (numbers : List ℕ) (k : ℕ) → AllOut at numbers → AllOut (put at k None) numbers
out-less at numbers k all = λ n seat e.
    ⊎_elim
    (λ (y : ((n == k) ≡ true) × (n ≡ k)). absurd (none_or_some seat (put at k None n) (put_here at k None n y.1) e))
    (λ (y : ((n == k) ≡ false) × (n ≢ k)). all n seat (sym (put_else at k None n y.1) ∙ e))
    (eqb_tells n k)

-- a number without a seat is out no more
pub out-without : (at : ℕ → Option ℕ) (numbers : List ℕ) (k : ℕ) → at k ≡ None → AllOut at numbers → AllOut at (without k numbers)
out-without at numbers k free all = λ n seat e. is_in-without n k numbers (all n seat e) (not_the_same at k n seat free e)

-- a number that is not out has no seat
pub none-out : (at : ℕ → Option ℕ) (numbers : List ℕ) (k : ℕ) → AllOut at numbers → is_in k numbers ≡ false → at k ≡ None
none-out at numbers k all new = one (at k) refl
  where
    one : (o : Option ℕ) → at k ≡ o → at k ≡ None
    one None e = e
    one (Some seat) e = absurd (true≢false (sym (all k seat e) ∙ new))
