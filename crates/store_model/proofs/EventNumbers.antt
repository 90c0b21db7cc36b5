-- The numbers of each session's events, and numbers in order.
use Rattle.std.proofs.Common.{◌≡◌, ℕ, zero, suc, ◌+◌, ◌==◌, List, [], ◌∷◌, ◌++◌, true, false, cond, refl, ap, ◌∙◌, arith}
use Rattle.std.specs.List.{range_with_len}
use Rattle.store_model.specs.declared.event.Event.{Event}
use Rattle.store_model.specs.declared.event.Event.TheVariants.{Call as CallEvent, Landed}
use Rattle.store_model.specs.History.{numbers_of}

pub numbers-append : (session : ℕ) (xs ys : List Event) → numbers_of session (xs ++ ys) ≡ numbers_of session xs ++ numbers_of session ys
numbers-append session [] ys = refl
numbers-append session (CallEvent s number call reply mark ∷ xs) ys =
    elim (s == session) as (λ c. cond c (number ∷ numbers_of session (xs ++ ys)) (numbers_of session (xs ++ ys)) ≡ cond c (number ∷ numbers_of session xs) (numbers_of session xs) ++ numbers_of session ys) [
      | true ↦ ap (λ l. number ∷ l) (numbers-append session xs ys)
      | false ↦ numbers-append session xs ys
    ]
numbers-append session (Landed commit ∷ xs) ys = numbers-append session xs ys

pub range-snoc : (a n : ℕ) → range_with_len a (suc n) ≡ range_with_len a n ++ (a + n) ∷ []
range-snoc a zero = let same : a ≡ a + 0 = omega arith in ap (λ (k : ℕ). k ∷ []) same
range-snoc a (suc n) =
    let same : a + 1 + n ≡ a + suc n = omega arith in
    ap (λ (l : List ℕ). a ∷ l) (range-snoc (a + 1) n ∙ ap (λ (k : ℕ). range_with_len (a + 1) n ++ k ∷ []) same)
