-- Lists of changes that are of consecutive blocks.
use Rattle.std.proofs.Common.{◌≡◌, ◌∙◌, ◌==◌, ℕ, zero, suc, ◌+◌, ◌-◌, ◌<◌, ◌≤◌, ◌⊎◌, inl, inr, List, [], ◌∷◌, ◌++◌, map, length, get_or, slice_set, drop, find, option_map, Option, Some, None, IsSome, ap, sym, subst, refl, arith}
use Rattle.std.specs.List.{range_with_len}
use Rattle.std.specs.Option.{option_or}
use Rattle.std.specs.List.Sorted.{IsStrictlyIncreasing}
use Rattle.std.proofs.lemmas.Bool.{cond-false, cond-true, eq-eqb, ne_eqb}
use Rattle.std.proofs.lemmas.List.{get_or-map, get_or_at, length-append, length-map, map-append, set_at}
use Rattle.std.proofs.lemmas.List.Elements.{All-from_get_or}
use Rattle.std.proofs.lemmas.List.Folds.{find-append}
use Rattle.std.proofs.lemmas.List.FromFn.{get_or-range_with_len, length-range_with_len}
use Rattle.std.proofs.lemmas.Option.{none-some}
use Rattle.htree_file.specs.declared.change.BlockChange.{BlockChange}
use Rattle.htree_file.specs.Changes.{AreChanges, page_for}

-- the last change of a list gets its page
pub page_put : (changes kept pushed : List BlockChange) (blank at : BlockChange) (n k : ℕ) (page : List ℕ) → kept ≡ changes → pushed ≡ kept ++ blank ∷ [] → blank.block ≡ k → n ≡ length pushed
    → at ≡ get_or pushed (n - 1) at → changes ++ record { block = k; page = page } ∷ [] ≡ slice_set pushed (n - 1) (record { block = at.block; page = page })
page_put changes kept pushed blank at n k page same push is long here =
    let all : pushed ≡ changes ++ blank ∷ [] = push ∙ ap (λ (l : List BlockChange). l ++ blank ∷ []) same in
    let last : length changes ≡ n - 1 = omega (arith, long, ap length all, length-append changes (blank ∷ [])) in
    let found : at ≡ blank = here ∙ ap (λ (l : List BlockChange). get_or l (n - 1) at) all ∙ get_or_at changes blank [] at (n - 1) last in
    let block : k ≡ at.block = sym (ap (λ (c : BlockChange). c.block) found ∙ is) in
    ap (λ (b : ℕ). let c : BlockChange = record { block = b; page = page } in changes ++ c ∷ []) block
    ∙ sym (set_at changes blank [] (record { block = at.block; page = page }) (n - 1) last)
    ∙ ap (λ (l : List BlockChange). slice_set l (n - 1) (record { block = at.block; page = page })) (sym all)

range_end : (a n j : ℕ) → a + n ≡ j → range_with_len a (suc n) ≡ range_with_len a n ++ j ∷ []
range_end a zero j e = let same : a ≡ j = omega arith in ap (λ k. k ∷ []) same
range_end a (suc n) j e = ap (λ l. a ∷ l) (range_end (a + 1) n j (omega arith))

-- a change of the next block makes the run of blocks longer by one
pub blocks-push : (xs : List BlockChange) (c : BlockChange) (first k : ℕ) → first ≤ k
    → map (λ c. c.block) xs ≡ range_with_len first (k - first) → c.block ≡ k
    → map (λ c. c.block) (xs ++ c ∷ []) ≡ range_with_len first (k + 1 - first)
blocks-push xs c first k le are is =
    let on : suc (k - first) ≡ k + 1 - first = omega arith in
    map-append (λ c. c.block) xs (c ∷ [])
    ∙ ap (λ l. l ++ c.block ∷ []) are
    ∙ sym (range_end first (k - first) c.block (omega arith))
    ∙ ap (range_with_len first) on

-- no change is of a block outside the run
missed : (xs : List BlockChange) (first n j : ℕ) → map (λ c. c.block) xs ≡ range_with_len first n → (j < first) ⊎ (first + n ≤ j)
    → find (λ c. c.block == j) xs ≡ None
missed [] first n j are out = refl
missed (x ∷ xs) first zero j are out = let long = ap length are in absurd (omega arith)
missed (x ∷ xs) first (suc n) j are out =
    let head : x.block ≡ first = ap (λ l. get_or l 0 0) are in
    let rest : map (λ c. c.block) xs ≡ range_with_len (first + 1) n = ap (drop 1) are in
    cond-false (x.block == j) (Some x) (find (λ c. c.block == j) xs) (ne_eqb x.block j (λ same. omega arith))
    ∙ missed xs (first + 1) n j rest (elim out [ inl below ↦ inl (omega arith) | inr above ↦ inr (omega arith) ])

-- so there is no page for it
pub page_for-missed : (xs : List BlockChange) (first n j : ℕ) → map (λ c. c.block) xs ≡ range_with_len first n
    → (j < first) ⊎ (first + n ≤ j) → page_for xs j ≡ None
page_for-missed xs first n j are out = ap (option_map (λ c. c.page)) (missed xs first n j are out)

kept : (o p : Option BlockChange) (page : List ℕ) → option_map (λ c. c.page) o ≡ Some page → option_map (λ c. c.page) (option_or o p) ≡ Some page
kept None p page is = absurd (none-some page is)
kept (Some c) p page is = is

given : (o p : Option BlockChange) → option_map (λ c. c.page) o ≡ None → option_or o p ≡ p
given None p is = refl
given (Some c) p is = absurd (none-some c.page (sym is))

-- a page that the changes have stays, whatever comes behind them
pub page_for-push : (xs : List BlockChange) (c : BlockChange) (j : ℕ) (page : List ℕ) → page_for xs j ≡ Some page → page_for (xs ++ c ∷ []) j ≡ Some page
page_for-push xs c j page is =
    ap (option_map (λ c. c.page)) (find-append (λ c. c.block == j) xs (c ∷ []))
    ∙ kept (find (λ c. c.block == j) xs) (find (λ c. c.block == j) (c ∷ [])) page is

-- the page of a change behind changes that have none for its block
pub page_for-last : (xs : List BlockChange) (c : BlockChange) → page_for xs c.block ≡ None → page_for (xs ++ c ∷ []) c.block ≡ Some c.page
page_for-last xs c none =
    ap (option_map (λ c. c.page)) (find-append (λ d. d.block == c.block) xs (c ∷ [])
    ∙ given (find (λ d. d.block == c.block) xs) (find (λ d. d.block == c.block) (c ∷ [])) none
    ∙ cond-true (c.block == c.block) (Some c) None (eq-eqb c.block c.block refl))

range_rises : (a n : ℕ) → IsStrictlyIncreasing (range_with_len a n)
range_rises a n k below =
    let within : k + 1 < n = omega (arith, length-range_with_len a n) in
    omega (arith, get_or-range_with_len a n k 0 (omega arith), get_or-range_with_len a n (k + 1) 0 within)

length_of : (xs : List BlockChange) (first n : ℕ) → map (λ c. c.block) xs ≡ range_with_len first n → length xs ≡ n
length_of xs first n are = sym (length-map xs (λ (c : BlockChange). c.block)) ∙ ap length are ∙ length-range_with_len first n

block_at : (xs : List BlockChange) (first n i : ℕ) (d : BlockChange) → map (λ c. c.block) xs ≡ range_with_len first n → i < length xs → (get_or xs i d).block ≡ first + i
block_at xs first n i d are below =
    let long = length_of xs first n are in
    sym (get_or-map (λ (c : BlockChange). c.block) xs i d 0 below) ∙ ap (λ l. get_or l i 0) are ∙ get_or-range_with_len first n i 0 (omega arith)

-- a run of blocks that there are, with each new one among them, is the changes of a stage
pub AreChanges-run : (before after : ℕ) (xs : List BlockChange) (first n : ℕ) → map (λ c. c.block) xs ≡ range_with_len first n
    → ((n ≡ 0) ⊎ (first + n ≤ after)) → ((k : ℕ) → before ≤ k → k < after → (first ≤ k) × (k < first + n))
    → ((j : ℕ) → first ≤ j → j < first + n → IsSome (page_for xs j)) → AreChanges before after xs
AreChanges-run before after xs first n are ends new have = record {
  rising = subst IsStrictlyIncreasing (sym are) (range_rises first n);
  within = All-from_get_or (λ c. c.block < after) xs (record { block = 0; page = [] }) (λ i below.
      let long = length_of xs first n are in
      let at = block_at xs first n i (record { block = 0; page = [] }) are below in
      elim ends [ inl none ↦ absurd (omega arith) | inr some ↦ omega arith ]);
  fresh = λ k from upto. let in_run = new k from upto in have k in_run.0 in_run.1;
}
