-- One file is taken out of a list, another is changed there, and the first is put back.
use Rattle.std.proofs.Common.{◌≡◌, ◌≢◌, ◌⊎◌, ◌∙◌, ◌+◌, ◌-◌, ◌<◌, ◌≤◌, ℕ, zero, suc, List, [], ◌∷◌, length, get_or, inl, inr, refl, sym, ap, arith}
use Rattle.std.specs.Prelude.{insert, nat_lt, remove, slice_set}
use Rattle.std.proofs.lemmas.Bool.{cases_lt, cond-false, cond-true, le-ltb, lt-ltb}
use Rattle.disk_model.specs.State.{FileState}
use Rattle.tee_types.specs.Limits.{IsObjectFile, last_file}
use Rattle.object_calls.specs.OpeningFiles.{files_of, object_files}
use Rattle.object_calls.specs.ObjectMoves.{place_beside}
use Rattle.object_calls.proofs.Files.{files_else, files_get, files_here}

-- the place of what stands at j, where that at i is taken out
abbrev IsBeside : (i j p : ℕ) → Type 0
IsBeside i j p = ((j < i) × (p ≡ j)) ⊎ ((i < j) × (p + 1 ≡ j))

removed_long : {A : Type 0} (l : List A) (i : ℕ) → i < length l → length (remove l i) + 1 ≡ length l
removed_long [] i lt = absurd (omega (arith, lt))
removed_long (x ∷ l) zero lt = omega arith
removed_long (x ∷ l) (suc i) lt = let rest = removed_long l i (omega (arith, lt)) in omega (arith, rest)

set_long : {A : Type 0} (l : List A) (i : ℕ) (x : A) → length (slice_set l i x) ≡ length l
set_long [] i x = refl
set_long (y ∷ l) zero x = refl
set_long (y ∷ l) (suc i) x = ap suc (set_long l i x)

module _ {F : Type 0} (state : F → FileState) where
  removed_below : (l : List F) (i k : ℕ) → k < i → files_of state (remove l i) k ≡ files_of state l k
  removed_below [] zero k lt = absurd (omega (arith, lt))
  removed_below [] (suc i) k lt = refl
  removed_below (x ∷ l) zero k lt = absurd (omega (arith, lt))
  removed_below (x ∷ l) (suc i) zero lt = refl
  removed_below (x ∷ l) (suc i) (suc k) lt = removed_below l i k (omega (arith, lt))

  removed_behind : (l : List F) (i k : ℕ) → i ≤ k → files_of state (remove l i) k ≡ files_of state l (suc k)
  removed_behind [] zero k le = refl
  removed_behind [] (suc i) k le = refl
  removed_behind (x ∷ l) zero k le = refl
  removed_behind (x ∷ l) (suc i) zero le = absurd (omega (arith, le))
  removed_behind (x ∷ l) (suc i) (suc k) le = removed_behind l i k (omega (arith, le))

  inserted_below : (l : List F) (i k : ℕ) (y : F) → k < i → i ≤ length l → files_of state (insert l i y) k ≡ files_of state l k
  inserted_below l zero k y lt le = absurd (omega (arith, lt))
  inserted_below [] (suc i) k y lt le = absurd (omega (arith, le))
  inserted_below (x ∷ l) (suc i) zero y lt le = refl
  inserted_below (x ∷ l) (suc i) (suc k) y lt le = inserted_below l i k y (omega (arith, lt)) (omega (arith, le))

  inserted_here : (l : List F) (i : ℕ) (y : F) → i ≤ length l → files_of state (insert l i y) i ≡ state y
  inserted_here l zero y le = refl
  inserted_here [] (suc i) y le = absurd (omega (arith, le))
  inserted_here (x ∷ l) (suc i) y le = inserted_here l i y (omega (arith, le))

  inserted_behind : (l : List F) (i k : ℕ) (y : F) → i ≤ k → i ≤ length l → files_of state (insert l i y) (suc k) ≡ files_of state l k
  inserted_behind l zero k y low le = refl
  inserted_behind [] (suc i) k y low le = absurd (omega (arith, le))
  inserted_behind (x ∷ l) (suc i) zero y low le = absurd (omega (arith, low))
  inserted_behind (x ∷ l) (suc i) (suc k) y low le = inserted_behind l i k y (omega (arith, low)) (omega (arith, le))

  module _ (l : List F) (i j p : ℕ) (x y : F) (i_low : i < length l) (j_low : j < length l) (beside : IsBeside i j p) where
    abbrev rest : List F
    rest = remove l i

    abbrev after : List F
    after = insert (slice_set rest p x) i y

    p_low : p < length rest
    p_low =
        let long = removed_long l i i_low in
        elim beside [
          | inl before ↦ omega (arith, long, before, i_low)
          | inr behind ↦ omega (arith, long, behind, j_low)
        ]

    i_fits : i ≤ length (slice_set rest p x)
    i_fits =
        let long = removed_long l i i_low in
        let same = set_long rest p x in
        omega (arith, long, same, i_low)

    -- what is changed is what stood at j
    was_beside : files_of state rest p ≡ files_of state l j
    was_beside = elim beside [
      | inl before ↦ ap (files_of state rest) before.1 ∙ removed_below l i j before.0
      | inr behind ↦
          let le : i ≤ p = omega (arith, behind) in
          let next : suc p ≡ j = omega (arith, behind) in
          removed_behind l i p le ∙ ap (files_of state l) next
    ]

    put_here : files_of state after i ≡ state y
    put_here = inserted_here (slice_set rest p x) i y i_fits

    put_beside : files_of state after j ≡ state x
    put_beside = elim beside [
      | inl before ↦
          inserted_below (slice_set rest p x) i j y before.0 i_fits ∙ ap (files_of state (slice_set rest p x)) (sym before.1) ∙ files_here state rest p x p_low
      | inr behind ↦
          let le : i ≤ p = omega (arith, behind) in
          let next : j ≡ suc p = omega (arith, behind) in
          ap (files_of state after) next ∙ inserted_behind (slice_set rest p x) i p y le i_fits ∙ files_here state rest p x p_low
    ]

    not_p : (k : ℕ) → k < i → k ≢ j → k ≢ p
    not_p k lt other = λ is. elim beside [
      | inl before ↦ other (is ∙ before.1)
      | inr behind ↦ absurd (omega (arith, behind, is, lt))
    ]

    not_p_behind : (k : ℕ) → i ≤ k → suc k ≢ j → k ≢ p
    not_p_behind k le other = λ is. elim beside [
      | inl before ↦ absurd (omega (arith, before, is, le))
      | inr behind ↦ other (omega (arith, behind, is))
    ]

    behind_same : (k : ℕ) → i ≤ k → suc k ≢ j → files_of state after (suc k) ≡ files_of state l (suc k)
    behind_same k le other =
        inserted_behind (slice_set rest p x) i k y le i_fits ∙ files_else state rest p k x (not_p_behind k le other) ∙ removed_behind l i k le

    same_else : (k : ℕ) → k ≢ i → k ≢ j → files_of state after k ≡ files_of state l k
    same_else zero not_i other =
        let lt : zero < i = omega (arith, not_i) in
        inserted_below (slice_set rest p x) i zero y lt i_fits ∙ files_else state rest p zero x (not_p zero lt other) ∙ removed_below l i zero lt
    same_else (suc k) not_i other = elim (cases_lt (suc k) i) [
      | inl lt ↦ inserted_below (slice_set rest p x) i (suc k) y lt i_fits ∙ files_else state rest p (suc k) x (not_p (suc k) lt other) ∙ removed_below l i (suc k) lt
      | inr le ↦ let low : i ≤ k = omega (arith, le, not_i) in behind_same k low other
    ]

  -- BY THEIR NUMBERS
  at_place : (l : List F) (file : ℕ) → 1 ≤ file → object_files state l file ≡ files_of state l (file - 1)
  at_place l zero from = absurd (omega (arith, from))
  at_place l (suc i) from = let back : i ≡ suc i - 1 = omega arith in ap (files_of state l) back

  pub record ArePutBack (l after : List F) (from file : ℕ) (x y : F) : Type 0 where
    pub here : object_files state after file ≡ state y
    pub beside : object_files state after from ≡ state x
    pub others : (n : ℕ) → n ≢ from → n ≢ file → object_files state after n ≡ object_files state l n

  module _ (l : List F) (from file : ℕ) (long : length l ≡ last_file) (is_from : IsObjectFile from) (is_file : IsObjectFile file) (apart : from ≢ file) where
    placed : IsBeside (file - 1) (from - 1) (place_beside from file)
    placed = elim (cases_lt from file) [
      | inl lt ↦
          let is : place_beside from file ≡ from - 1 = cond-true (nat_lt from file) (from - 1) (from - 2) (lt-ltb from file lt) in
          inl (omega (arith, lt, is_from), is)
      | inr le ↦
          let is : place_beside from file ≡ from - 2 = cond-false (nat_lt from file) (from - 1) (from - 2) (le-ltb from file le) in
          inr (omega (arith, le, apart, is_file), omega (arith, is, le, apart, is_file))
    ]

    from_low : from - 1 < length l
    from_low = omega (arith, long, is_from)

    file_low : file - 1 < length l
    file_low = omega (arith, long, is_file)

    -- the place is within the list without the one that is taken
    pub beside_within : place_beside from file < length (remove l (file - 1))
    beside_within = elim placed [
      | inl before ↦ let rest = removed_long l (file - 1) file_low in omega (arith, rest, before, long, is_from, is_file)
      | inr behind ↦ let rest = removed_long l (file - 1) file_low in omega (arith, rest, behind, long, is_from, is_file)
    ]

    pub taken_is : (y : F) → y ≡ get_or l (file - 1) y → object_files state l file ≡ state y
    taken_is y is = at_place l file is_file.0 ∙ files_get state l (file - 1) y file_low is

    pub beside_is : (x : F) → x ≡ get_or (remove l (file - 1)) (place_beside from file) x → object_files state l from ≡ state x
    beside_is x is =
        at_place l from is_from.0 ∙ sym (was_beside l (file - 1) (from - 1) (place_beside from file) x x file_low from_low placed)
        ∙ files_get state (remove l (file - 1)) (place_beside from file) x beside_within is

    pub put_back : (x y : F) → ArePutBack l (insert (slice_set (remove l (file - 1)) (place_beside from file) x) (file - 1) y) from file x y
    put_back x y =
        let i : ℕ = file - 1 in
        let j : ℕ = from - 1 in
        let p : ℕ = place_beside from file in
        let now : List F = insert (slice_set (remove l (file - 1)) (place_beside from file) x) (file - 1) y in
        record {
          here = at_place now file is_file.0 ∙ put_here l i j p x y file_low from_low placed;
          beside = at_place now from is_from.0 ∙ put_beside l i j p x y file_low from_low placed;
          others = λ n not_from not_file. other n not_from not_file;
        }
      where
        other : (n : ℕ) → n ≢ from → n ≢ file
            → object_files state (insert (slice_set (remove l (file - 1)) (place_beside from file) x) (file - 1) y) n ≡ object_files state l n
        other zero not_from not_file = refl
        other (suc k) not_from not_file =
            same_else l (file - 1) (from - 1) (place_beside from file) x y file_low from_low placed k
            (λ is. not_file (omega (arith, is, is_file))) (λ is. not_from (omega (arith, is, is_from)))
