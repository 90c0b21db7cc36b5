-- Changes by their places in the list.
use Rattle.std.proofs.Common.{◌≡◌, inl, inr, ℕ, zero, suc, ◌+◌, ◌<◌, ◌≤◌, List, [], ◌∷◌, length, get_or, find, ◌==◌, Option, Some, None, IsSome, option_map, refl, sym, ◌∙◌, ap, arith}
use Rattle.std.proofs.lemmas.Bool.{cases_lt, cases_Bool, cond-true, cond-false, eqb-true, eq-eqb, false≢true}
use Rattle.std.proofs.lemmas.List.{get_or-map, length-map}
use Rattle.std.proofs.lemmas.List.Elements.{All-from_get_or, All-get_or}
use Rattle.std.specs.List.Sorted.{IsStrictlyIncreasing}
use Rattle.htree_file.specs.declared.change.BlockChange.{BlockChange}
use Rattle.htree_file.specs.Changes.{AreApart, AreChanges, IsChanged, block_at, changed_blocks, no_change, numbered, page_at, page_for}

-- the pages of a whole tree
pub length-numbered : (pages : List (List ℕ)) (k : ℕ) → length (numbered pages k) ≡ length pages
length-numbered [] k = refl
length-numbered (page ∷ pages) k = ap suc (length-numbered pages (k + 1))

pub numbered_block : (pages : List (List ℕ)) (k j : ℕ) → j < length pages → block_at (numbered pages k) j ≡ k + j
numbered_block [] k j lt = absurd (omega arith)
numbered_block (page ∷ pages) k zero lt = omega arith
numbered_block (page ∷ pages) k (suc j) lt = let rest = numbered_block pages (k + 1) j (omega arith) in omega (arith, rest)

pub numbered_page : (pages : List (List ℕ)) (k j : ℕ) → j < length pages → page_at (numbered pages k) j ≡ get_or pages j []
numbered_page [] k j lt = absurd (omega arith)
numbered_page (page ∷ pages) k zero lt = refl
numbered_page (page ∷ pages) k (suc j) lt = numbered_page pages (k + 1) j (omega arith)

-- the number of a change, as a list has it
pub number_at : (changes : List BlockChange) (j : ℕ) → j < length changes → get_or (changed_blocks changes) j 0 ≡ block_at changes j
number_at changes j lt = get_or-map (λ (c : BlockChange). c.block) changes j no_change 0 lt

-- blocks rise
rising_at : (changes : List BlockChange) → IsStrictlyIncreasing (changed_blocks changes) → (i j : ℕ) → i < j → j < length changes → block_at changes i < block_at changes j
rising_at changes up i zero lt most = absurd (omega arith)
rising_at changes up i (suc j) lt most =
    let e : suc j ≡ j + 1 = omega arith in
    let step : get_or (changed_blocks changes) j 0 < get_or (changed_blocks changes) (j + 1) 0 = up j (omega (arith, most, length-map changes (λ (c : BlockChange). c.block))) in
    let here : block_at changes j < block_at changes (suc j) = omega (arith, step, number_at changes j (omega arith), number_at changes (suc j) most, ap (λ (n : ℕ). get_or (changed_blocks changes) n 0) e) in
    elim (cases_lt i j) [
      | inl less ↦ omega (arith, here, rising_at changes up i j less (omega arith))
      | inr same ↦ let is : i ≡ j = omega arith in omega (arith, here, ap (block_at changes) is)
    ]

pub apart_of : (before after : ℕ) (changes : List BlockChange) → AreChanges before after changes → AreApart after changes
apart_of before after changes are = record {
  within = λ j lt. All-get_or (λ (c : BlockChange). c.block < after) changes j no_change lt are.within;
  apart = rising_at changes are.rising;
}

-- so there are no more than blocks
pub few_of : (after : ℕ) (changes : List BlockChange) → AreApart after changes → length changes ≤ after
few_of after changes are = elim (cases_lt after (length changes)) [
  | inl more ↦ let far : after ≤ block_at changes after = climb after more in absurd (omega (arith, far, are.within after more))
  | inr few ↦ few
]
  where
    climb : (j : ℕ) → j < length changes → j ≤ block_at changes j
    climb zero lt = omega arith
    climb (suc j) lt = omega (arith, climb j (omega arith), are.apart j (suc j) (omega arith) lt)

-- a page that is found stands at a place
pub found : (changes : List BlockChange) (k : ℕ) (page : List ℕ) → page_for changes k ≡ Some page → (c : IsChanged changes k) × (page_at changes c.place ≡ page)
found [] k page is = absurd (cc (is))
found (c ∷ changes) k page is = elim (cases_Bool (c.block == k)) [
  | inl here ↦
      let at : Some c.page ≡ Some page = sym (ap (option_map (λ (x : BlockChange). x.page)) (cond-true (c.block == k) (Some c) (find (λ (x : BlockChange). x.block == k) changes) here)) ∙ is in
      (record { place = 0; below = omega arith; is = eqb-true c.block k here }, cc (at))
  | inr other ↦
      let rest = found changes k page (sym (ap (option_map (λ (x : BlockChange). x.page)) (cond-false (c.block == k) (Some c) (find (λ (x : BlockChange). x.block == k) changes) other)) ∙ is) in
      (record { place = suc rest.0.place; below = omega (arith, rest.0.below); is = rest.0.is }, rest.1)
]

-- and one that stands there is found
pub has_page : (changes : List BlockChange) (k : ℕ) → IsChanged changes k → page_for changes k ≡ None → ⊥
has_page changes k changed none = by changes changed.place changed.below changed.is none
  where
    by : (list : List BlockChange) (j : ℕ) → j < length list → block_at list j ≡ k → page_for list k ≡ None → ⊥
    by [] j lt is none = omega arith
    by (c ∷ list) zero lt is none =
        let at : Some c.page ≡ None = sym (ap (option_map (λ (x : BlockChange). x.page)) (cond-true (c.block == k) (Some c) (find (λ (x : BlockChange). x.block == k) list) (eq-eqb c.block k is))) ∙ none in cc (at)
    by (c ∷ list) (suc j) lt is none = elim (cases_Bool (c.block == k)) [
      | inl here ↦
          let at : Some c.page ≡ None = sym (ap (option_map (λ (x : BlockChange). x.page)) (cond-true (c.block == k) (Some c) (find (λ (x : BlockChange). x.block == k) list) here)) ∙ none in cc (at)
      | inr other ↦ by list j (omega arith) is (sym (ap (option_map (λ (x : BlockChange). x.page)) (cond-false (c.block == k) (Some c) (find (λ (x : BlockChange). x.block == k) list) other)) ∙ none)
    ]

-- some page of a block, or none
pub page_cases : (changes : List BlockChange) (k : ℕ) (P : Option (List ℕ) → Type 0) → (page_for changes k ≡ None → P None) → ((page : List ℕ) → page_for changes k ≡ Some page → P (Some page)) → P (page_for changes k)
page_cases changes k P none some = by (page_for changes k) refl
  where
    by : (o : Option (List ℕ)) → page_for changes k ≡ o → P o
    by None is = none is
    by (Some page) is = some page is

-- a block that is to have a change has one
pub changed_of : (changes : List BlockChange) (k : ℕ) → IsSome (page_for changes k) → IsChanged changes k
changed_of changes k some = by (page_for changes k) refl some
  where
    by : (o : Option (List ℕ)) → page_for changes k ≡ o → IsSome o → IsChanged changes k
    by None is has = absurd (false≢true has)
    by (Some page) is has = (found changes k page is).0

-- a block that has no change is an old one
pub unchanged_old : (before after : ℕ) (changes : List BlockChange) (k : ℕ) → AreChanges before after changes → k < after → page_for changes k ≡ None → k < before
unchanged_old before after changes k are lt none = elim (cases_lt k before) [
  | inl old ↦ old
  | inr new ↦ absurd (has_page changes k (changed_of changes k (are.fresh k new lt)) none)
]

-- the changes of a whole tree
pub whole_changes : (pages : List (List ℕ)) (g : ℕ) → length pages ≡ g → AreChanges 0 g (numbered pages 0)
whole_changes pages g many = record {
  rising = λ j lt.
      let long : length (numbered pages 0) ≡ length pages = length-numbered pages 0 in
      let low : j + 1 < length (numbered pages 0) = omega (arith, lt, length-map (numbered pages 0) (λ (c : BlockChange). c.block)) in
      omega (arith, number_at (numbered pages 0) j (omega (arith, low)), number_at (numbered pages 0) (j + 1) low, numbered_block pages 0 j (omega (arith, low, long)), numbered_block pages 0 (j + 1) (omega (arith, low, long)));
  within = All-from_get_or (λ (c : BlockChange). c.block < g) (numbered pages 0) no_change (λ j lt. omega (arith, numbered_block pages 0 j (omega (arith, lt, length-numbered pages 0)), lt, length-numbered pages 0, many));
  fresh = λ k old lt.
      let low : k < length pages = omega arith in
      some_page (page_for (numbered pages 0) k) (has_page (numbered pages 0) k (record { place = k; below = omega (arith, low, length-numbered pages 0); is = omega (arith, numbered_block pages 0 k low) }));
}
  where
    some_page : (o : Option (List ℕ)) → (o ≡ None → ⊥) → IsSome o
    some_page None other = absurd (other refl)
    some_page (Some page) other = refl
