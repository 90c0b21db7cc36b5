-- Lists of kept halves, as some are put to their places and others are taken out.
use Rattle.std.proofs.Common.{◌≡◌, ◌⊎◌, ◌<◌, ◌≤◌, ◌+◌, ◌∙◌, ℕ, true, false, true≢false, List, [], ◌∷◌, ◌++◌, length, drop, take, get_or, append-nil, Option, Some, None, refl, sym, ap, subst, inl, inr, arith}
use Rattle.std.specs.Prelude.{is_some, slice_set}
use Rattle.std.specs.Option.{option_map}
use Rattle.std.proofs.lemmas.Bool.{cases_eq, cases_lt, false≢true}
use Rattle.std.proofs.lemmas.List.{drop_all, get_or-map, get_or-set_other, get_or-set_same, get_or_append_left, get_or_past, get_or_push, length-map, length-set, set-get_or, set_past, take_all}
use Rattle.history_seats.specs.Views.{GateView, PassView, Sight}
use Rattle.core_laws.proofs.Mending.{some_same}
use Rattle.shared_store.specs.Stores.{Store}
use Rattle.quota_store.specs.Halves.{AreEmptyPlaces, AreHalves, IsHalfOf, half_shown, halves_shown, kept_at}
use Rattle.quota_store.specs.LockedCalls.{AreKeptAlike}
use Rattle.quota_store.specs.Sharing.{AreAllKept, AreTogether, PutsHalf}

abbrev pub Places : Type 0
Places = List (Option (Sight PassView))

-- OPTIONS
pub not_some : {X : Type 0} (o : Option X) → is_some o ≡ false → o ≡ None
not_some None is = refl
not_some (Some x) is = absurd (true≢false is)

pub some_in : {X : Type 0} (o : Option X) → is_some o ≡ true → (x : X) × (o ≡ Some x)
some_in None is = absurd (false≢true is)
some_in (Some x) is = (x, refl)

-- LENT
-- a list that was lent as a slice
pub refilled : {A : Type 0} (n : ℕ) (items written : List A) → length items ≡ n → length written ≡ n → take n (written ++ drop (length written) items) ≡ written
refilled {A} n items written long same =
    let none : drop (length written) items ≡ [] = drop_all (length written) items (omega (arith, long, same)) in
    ap (λ (l : List A). take n (written ++ l)) none ∙ ap (take n) (append-nil written) ∙ take_all n written (omega (arith, same))

-- ONE PLACE
module _ (kept : Places) (i : ℕ) (v : Option (Sight PassView)) where
  pub set_there : i < length kept → kept_at (slice_set kept i v) i ≡ v
  set_there within = get_or-set_same kept i v None within

  pub set_else : (k : ℕ) → (k ≡ i → ⊥) → kept_at (slice_set kept i v) k ≡ kept_at kept k
  set_else k other = get_or-set_other kept i k v None other

  -- what stands in a place is what was put there, or what stood there
  pub set_cases : (k : ℕ) (half : Sight PassView) → kept_at (slice_set kept i v) k ≡ Some half → ((k ≡ i) × (v ≡ Some half)) ⊎ (kept_at kept k ≡ Some half)
  set_cases k half is = elim (cases_eq k i) [
    | inl same ↦ elim (cases_lt i (length kept)) [
      | inl within ↦ inl (same, sym (set_there within) ∙ ap (kept_at (slice_set kept i v)) (sym same) ∙ is)
      | inr past ↦ inr (ap (λ (l : Places). kept_at l k) (sym (set_past kept i v past)) ∙ is)
    ]
    | inr other ↦ inr (sym (set_else k other) ∙ is)
  ]

-- a place past the list is empty, so what is in one is within
pub within_some : (kept : Places) (k : ℕ) (half : Sight PassView) → kept_at kept k ≡ Some half → k < length kept
within_some kept k half is = elim (cases_lt k (length kept)) [
  | inl within ↦ within
  | inr past ↦ absurd (cc (sym (get_or_past kept k None past) ∙ is))
]

-- a place that is empty is as it was once its half is taken
pub taken_none : (kept : Places) (k : ℕ) → kept_at kept k ≡ None → slice_set kept k None ≡ kept
taken_none kept k none = ap (slice_set kept k) (sym none) ∙ set-get_or kept k None

-- THE HALVES
module _ (store : Store) (kept : Places) (halves : AreHalves store kept) where
  pub halves_put : (i : ℕ) (half : Sight PassView) → IsHalfOf store i half → AreHalves store (slice_set kept i (Some half))
  halves_put i half own k other is = elim (set_cases kept i (Some half) k other is) [
    | inl here ↦ subst (λ (x : ℕ × Sight PassView). IsHalfOf store x.0 x.1) (λ j. (sym here.0 j, some_same half other here.1 j)) own
    | inr there ↦ halves k other there
  ]

  -- to the place of its own session
  pub halves_put_own : (half : Sight PassView) → half.table ≡ store.table → AreHalves store (slice_set kept half.knows.session (Some half))
  halves_put_own half table = halves_put half.knows.session half (record { table = table; own = refl })

  pub halves_taken : (i : ℕ) → AreHalves store (slice_set kept i None)
  halves_taken i k other is = elim (set_cases kept i None k other is) [
    | inl here ↦ absurd (cc (here.1))
    | inr there ↦ halves k other there
  ]

  -- the last place, and the others
  pub halves_last : (rest : Places) (last : Option (Sight PassView)) → kept ≡ rest ++ last ∷ [] → AreHalves store rest × ((half : Sight PassView) → last ≡ Some half → IsHalfOf store (length rest) half)
  halves_last rest last is = (
    λ k half there.
        halves k half
        (ap (λ (l : Places). kept_at l k) is ∙ get_or_append_left rest (last ∷ []) None k (within_some rest k half there) ∙ there),
    λ half there. halves (length rest) half (ap (λ (l : Places). kept_at l (length rest)) is ∙ get_or_push rest last None (length rest) refl ∙ there),
  )

-- NONE
module _ (places : Places) (e : AreEmptyPlaces places) where
  pub empty_at : (k : ℕ) → kept_at places k ≡ None
  empty_at k = elim (cases_lt k (length places)) [
    | inl within ↦ not_some (get_or places k None) (e.empty k None within)
    | inr past ↦ get_or_past places k None past
  ]

  pub halves_empty : (store : Store) → AreHalves store places
  halves_empty store k half is = absurd (cc (sym (empty_at k) ∙ is))

-- SHOWN THE HISTORY
module _ (gate : GateView) (kept : Places) where
  pub length-shown : length (halves_shown gate kept) ≡ length kept
  length-shown = length-map kept (option_map (half_shown gate))

  pub shown_at : (k : ℕ) → kept_at (halves_shown gate kept) k ≡ option_map (half_shown gate) (kept_at kept k)
  shown_at k = elim (cases_lt k (length kept)) [
    | inl within ↦ get_or-map (option_map (half_shown gate)) kept k None None within
    | inr past ↦
        get_or_past (halves_shown gate kept) k None (omega (arith, past, length-shown))
        ∙ ap (option_map (half_shown gate)) (sym (get_or_past kept k None past))
  ]

  pub shown_some : (k : ℕ) (half : Sight PassView) → kept_at kept k ≡ Some half → kept_at (halves_shown gate kept) k ≡ Some (half_shown gate half)
  shown_some k half is = shown_at k ∙ ap (option_map (half_shown gate)) is

  -- which of them are there is as before
  pub alike_shown : AreKeptAlike kept (halves_shown gate kept)
  alike_shown k half is = (half_shown gate half, shown_some k half is)

  -- which half was shown
  pub shown_back : (k : ℕ) (shown : Sight PassView) → kept_at (halves_shown gate kept) k ≡ Some shown → (half : Sight PassView) × (kept_at kept k ≡ Some half) × (half_shown gate half ≡ shown)
  shown_back k shown is = back (kept_at kept k) refl (sym (shown_at k) ∙ is)
    where
      back : (o : Option (Sight PassView)) → kept_at kept k ≡ o → option_map (half_shown gate) o ≡ Some shown
          → (half : Sight PassView) × (kept_at kept k ≡ Some half) × (half_shown gate half ≡ shown)
      back None was e = absurd (cc (e))
      back (Some half) was e = (half, was, some_same (half_shown gate half) shown e)

  -- so it is behind a call that was lent them as a slice
  pub lent_shown : (n : ℕ) (lent written : Places) → length kept ≡ n → lent ≡ kept → written ≡ halves_shown gate lent → take n (written ++ drop (length written) kept) ≡ halves_shown gate kept
  lent_shown n lent written long same shown =
      let all : written ≡ halves_shown gate kept = shown ∙ ap (halves_shown gate) same in
      refilled n kept written long (ap length all ∙ length-shown ∙ long) ∙ all

  pub halves_are_shown : (store : Store) → AreHalves store kept → AreHalves store (halves_shown gate kept)
  halves_are_shown store halves k shown is =
      let half = shown_back k shown is in
      subst (IsHalfOf store k) half.2 (record { table = (halves k half.0 half.1).table; own = (halves k half.0 half.1).own })

-- A HALF IS PUT TO ITS PLACE
module _ (store : Store) (kept after : Places) (number : ℕ) (put : PutsHalf store number kept after) where
  pub put_halves : AreHalves store kept → AreHalves store after
  put_halves halves = subst (AreHalves store) (sym put.2) (halves_put store kept halves number put.0 put.1)

  -- those of the sessions from the next one on were there
  pub put_next : (first : ℕ) → first ≡ number + 1 → number < length kept
      → ((k : ℕ) → first ≤ k → k < length store.mounted.applications → is_some (kept_at kept k) ≡ true)
      → (k : ℕ) → number ≤ k → k < length store.mounted.applications → is_some (kept_at after k) ≡ true
  put_next first next within there k from known = elim (cases_eq k number) [
    | inl same ↦ ap is_some (ap (λ (l : Places). kept_at l k) put.2 ∙ ap (kept_at (slice_set kept number (Some put.0))) same ∙ set_there kept number (Some put.0) within)
    | inr other ↦
        ap is_some (ap (λ (l : Places). kept_at l k) put.2 ∙ set_else kept number (Some put.0) k other)
        ∙ there k (omega (arith, next, from, other)) known
  ]

  pub length-put : length after ≡ length kept
  length-put = ap length put.2 ∙ length-set kept number (Some put.0)

-- where all are kept, those of one application are together
pub all_together : (store : Store) (kept : Places) → AreAllKept store kept → AreTogether store kept
all_together store kept all i j i_lt j_lt same = all i i_lt ∙ sym (all j j_lt)
