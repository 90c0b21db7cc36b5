-- The bad blocks of an object: which a read or a change finds, and which a change leaves.
use Rattle.std.proofs.Common.{◌≡◌, ◌+◌, ◌-◌, ◌<◌, ◌≤◌, ◌&&◌, ℕ, suc, zero, List, [], ◌∷◌, length, get_or, filter, not, Option, Some, None, Bool, true, false, cond, arith, refl, inl, inr, ap, sym, ◌∙◌}
use Rattle.std.specs.List.{range_with_len, list_any}
use Rattle.std.specs.Option.{is_none, IsSome}
use Rattle.std.proofs.lemmas.Bool.{cases_Bool, and_left, and_right, and_from, or_from}
use Rattle.std.proofs.lemmas.List.Folds.{list_any_at}
use Rattle.std.proofs.lemmas.List.FromFn.{length-range_with_len, get_or-range_with_len}
use Rattle.page_bytes.specs.Pages.{page_at}
use Rattle.crash_core.specs.MountedObject.{bad_blocks}

-- two filters, one after the other
filter-filter : (p q : ℕ → Bool) (xs : List ℕ) → filter p (filter q xs) ≡ filter (λ k. q k && p k) xs
filter-filter p q [] = refl
filter-filter p q (x ∷ xs) = elim (cases_Bool (q x)) [
  | inl hit ↦ grind (arith, hit, filter-filter p q xs)
  | inr miss ↦ grind (arith, miss, filter-filter p q xs)
]

-- a test of what a filter keeps
list_any-filter : (p q : ℕ → Bool) (xs : List ℕ) → list_any p (filter q xs) ≡ list_any (λ k. q k && p k) xs
list_any-filter p q [] = refl
list_any-filter p q (x ∷ xs) = elim (cases_Bool (q x)) [
  | inl hit ↦ grind (arith, hit, list_any-filter p q xs)
  | inr miss ↦ grind (arith, miss, list_any-filter p q xs)
]

-- a test that no number of a range passes
pub filter-none : (p : ℕ → Bool) (a n : ℕ) → ((k : ℕ) → a ≤ k → k < a + n → p k ≡ false) → filter p (range_with_len a n) ≡ []
filter-none p a zero fails = refl
filter-none p a (suc n) fails =
    let here : p a ≡ false = fails a (omega arith) (omega arith) in
    ap (λ b. cond b (a ∷ filter p (range_with_len (a + 1) n)) (filter p (range_with_len (a + 1) n))) here
    ∙ filter-none p (a + 1) n (λ k from upto. fails k (omega arith) (omega arith))

list_any-none : (p : ℕ → Bool) (a n : ℕ) → ((k : ℕ) → a ≤ k → k < a + n → p k ≡ false) → list_any p (range_with_len a n) ≡ false
list_any-none p a zero fails = refl
list_any-none p a (suc n) fails =
    or_from (p a) (list_any p (range_with_len (a + 1) n)) (fails a (omega arith) (omega arith))
    (list_any-none p (a + 1) n (λ k from upto. fails k (omega arith) (omega arith)))

-- Two tests keep the same of two ranges that begin together, where they agree on both, and each fails on what it has more.
filter-ranges : (p q : ℕ → Bool) (a n m : ℕ) → ((k : ℕ) → a ≤ k → k < a + n → k < a + m → p k ≡ q k)
    → ((k : ℕ) → a + m ≤ k → k < a + n → p k ≡ false) → ((k : ℕ) → a + n ≤ k → k < a + m → q k ≡ false)
    → filter p (range_with_len a n) ≡ filter q (range_with_len a m)
filter-ranges p q a zero m agree left right = sym (filter-none q a m (λ k from upto. right k (omega arith) upto))
filter-ranges p q a (suc n) zero agree left right = filter-none p a (suc n) (λ k from upto. left k (omega arith) upto)
filter-ranges p q a (suc n) (suc m) agree left right =
    let here : p a ≡ q a = agree a (omega arith) (omega arith) (omega arith) in
    let rest : filter p (range_with_len (a + 1) n) ≡ filter q (range_with_len (a + 1) m) =
    filter-ranges p q (a + 1) n m (λ k from one other. agree k (omega arith) (omega arith) (omega arith))
    (λ k from upto. left k (omega arith) (omega arith)) (λ k from upto. right k (omega arith) (omega arith)) in
    ap (λ b. cond b (a ∷ filter p (range_with_len (a + 1) n)) (filter p (range_with_len (a + 1) n))) here
    ∙ ap (λ l. cond (q a) (a ∷ l) l) rest

-- a good block is not bad
not-none : (page : Option (List ℕ)) → IsSome page → is_none page ≡ false
not-none (Some page) good = refl
not-none None good = sym good

-- no bad block passes a test where each block that passes it is good
pub list_any-bad-false : (p : ℕ → Bool) (pages : List (Option (List ℕ)))
    → ((k : ℕ) → 1 ≤ k → k < length pages → p k ≡ true → IsSome (page_at pages k)) → list_any p (bad_blocks pages) ≡ false
list_any-bad-false p pages good =
    list_any-filter p (λ k. is_none (page_at pages k)) (range_with_len 1 (length pages - 1))
    ∙ list_any-none (λ k. is_none (page_at pages k) && p k) 1 (length pages - 1) (λ k from upto. elim (cases_Bool (p k)) [
      | inl hit ↦ and_left (is_none (page_at pages k)) (p k) (not-none (page_at pages k) (good k from (omega arith) hit))
      | inr miss ↦ and_right (is_none (page_at pages k)) (p k) miss
    ])

-- a bad block that passes a test is found by it
pub list_any-bad-true : (p : ℕ → Bool) (pages : List (Option (List ℕ))) (k : ℕ) → 1 ≤ k → k < length pages → page_at pages k ≡ None → p k ≡ true
    → list_any p (bad_blocks pages) ≡ true
list_any-bad-true p pages k from upto bad hit =
    let at : get_or (range_with_len 1 (length pages - 1)) (k - 1) 0 ≡ k = get_or-range_with_len 1 (length pages - 1) (k - 1) 0 (omega arith) ∙ omega arith in
    let passes : is_none (page_at pages k) && p k ≡ true = and_from (is_none (page_at pages k)) (p k) (ap is_none bad) hit in
    list_any-filter p (λ k. is_none (page_at pages k)) (range_with_len 1 (length pages - 1))
    ∙ list_any_at (λ k. is_none (page_at pages k) && p k) (range_with_len 1 (length pages - 1)) (k - 1) 0 (omega (arith, length-range_with_len 1 (length pages - 1)))
    (ap (λ j. is_none (page_at pages j) && p j) at ∙ passes)

-- A change leaves the bad blocks that it misses. Those that it meets are good then, or gone; new ones are met.
pub bad_blocks-changed : (met : ℕ → Bool) (was now : List (Option (List ℕ)))
    → ((k : ℕ) → 1 ≤ k → k < length now → met k ≡ false → page_at now k ≡ page_at was k)
    → ((k : ℕ) → 1 ≤ k → k < length now → met k ≡ true → IsSome (page_at now k))
    → ((k : ℕ) → 1 ≤ k → length was ≤ k → k < length now → met k ≡ true)
    → ((k : ℕ) → 1 ≤ k → length now ≤ k → k < length was → met k ≡ true)
    → bad_blocks now ≡ filter (λ k. not (met k)) (bad_blocks was)
bad_blocks-changed met was now same good grown cut =
    filter-ranges (λ k. is_none (page_at now k)) (λ k. is_none (page_at was k) && not (met k)) 1 (length now - 1) (length was - 1)
    (λ k from one other. elim (cases_Bool (met k)) [
      | inl hit ↦
          not-none (page_at now k) (good k from (omega arith) hit)
          ∙ sym (and_right (is_none (page_at was k)) (not (met k)) (ap not hit))
      | inr miss ↦ grind (arith, same k from (omega arith) miss, miss)
    ])
    (λ k from upto. not-none (page_at now k) (good k (omega arith) (omega arith) (grown k (omega arith) (omega arith) (omega arith))))
    (λ k from upto. and_right (is_none (page_at was k)) (not (met k)) (ap not (cut k (omega arith) (omega arith) (omega arith))))
    ∙ sym (filter-filter (λ k. not (met k)) (λ k. is_none (page_at was k)) (range_with_len 1 (length was - 1)))
