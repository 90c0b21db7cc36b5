-- What it is that no entry is outside the form.
use Rattle.std.proofs.Common.{◌≡◌, ◌≢◌, inl, inr, ℕ, zero, suc, ◌+◌, ◌-◌, ◌<◌, ◌≤◌, ◌==◌, ◌&&◌, not, Bool, true, false, cond, map, Option, Some, None, Ok, refl, sym, ap, ◌∙◌, subst, true≢false, arith}
use Rattle.std.specs.Prelude.{nat_le}
use Rattle.std.specs.List.{list_any, range_with_len}
use Rattle.std.proofs.lemmas.Bool.{and_from, and_left, and_parts, cases_Bool, cases_lt, cond-true, cond-false}
use Rattle.store_model.specs.Name.{name_eq}
use Rattle.card_maps.specs.Form.{data_blocks, front_fault, is_live, map_fault, name_in, number_at, or_next, rest_fault, size_in}
use Rattle.card_maps.specs.CardMaps.{BadCard, Blocks, CardMap, Live, any_before, bad_at, entry_fault, first_bad, has_number, is_good_number, is_repeated, map_of_blocks, map_or, numbers_fault, objects_of}
use Rattle.card_maps.proofs.Ranges.{any_none, next_none, none_any, none_next, none_wrong, not_false, turned, wrong_none}

-- number i of entry b
pub record IsGood (blocks : Blocks) (live : Live) (b i : ℕ) : Type 0 where
  pub low : nat_le 2 (number_at (blocks b) i) ≡ true
  pub dead : live (number_at (blocks b) i) ≡ false
  pub distinct : (j : ℕ) → j < i → (number_at (blocks b) j == number_at (blocks b) i) ≡ false
  pub apart : (c : ℕ) → 2 ≤ c → c < b → live c ≡ true → has_number (blocks c) (number_at (blocks b) i) ≡ false

pub record IsEntry (blocks : Blocks) (live : Live) (b : ℕ) : Type 0 where
  pub single : (c : ℕ) → 2 ≤ c → c < b → live c ≡ true → name_eq (name_in (blocks c)) (name_in (blocks b)) ≡ false
  pub front : front_fault (blocks b) ≡ None
  pub numbers : (i : ℕ) → i < data_blocks (size_in (blocks b)) → IsGood blocks live b i
  pub rest : rest_fault (blocks b) ≡ None

before_none : (live : Live) (b : ℕ) → 2 ≤ b → (test : ℕ → Bool) → ((c : ℕ) → 2 ≤ c → c < b → live c ≡ true → test c ≡ false) → any_before live b test ≡ false
before_none live b low test each = any_none (λ c. live c && test c) 2 (b - 2) (λ c ge lt. elim (cases_Bool (live c)) [
  | inl aye ↦ elim (cases_Bool (test c)) [
    | inl hit ↦ absurd (true≢false (sym hit ∙ each c ge (omega (arith, lt, low)) aye))
    | inr miss ↦ ap (λ (x : Bool). live c && x) miss ∙ none_of (live c)
  ]
  | inr nay ↦ and_left (live c) (test c) nay
])
  where
    none_of : (x : Bool) → (x && false) ≡ false
    none_of true = refl
    none_of false = refl

none_before : (live : Live) (b : ℕ) → 2 ≤ b → (test : ℕ → Bool) → any_before live b test ≡ false → (c : ℕ) → 2 ≤ c → c < b → live c ≡ true → test c ≡ false
none_before live b low test none c ge lt aye = sym (ap (λ (x : Bool). x && test c) aye) ∙ none_any (λ k. live k && test k) 2 (b - 2) none c ge (omega (arith, lt, low))

module _ (blocks : Blocks) (live : Live) (b : ℕ) (low : 2 ≤ b) where
  good_test : (i : ℕ) → IsGood blocks live b i → is_good_number blocks live b i ≡ true
  good_test i g =
      let d = number_at (blocks b) i in
      and_from (nat_le 2 d) (not (live d) && (not (list_any (λ j. number_at (blocks b) j == d) (range_with_len 0 i)) && not (any_before live b (λ c. has_number (blocks c) d)))) g.low
      (and_from (not (live d)) (not (list_any (λ j. number_at (blocks b) j == d) (range_with_len 0 i)) && not (any_before live b (λ c. has_number (blocks c) d))) (turned (live d) g.dead)
      (and_from (not (list_any (λ j. number_at (blocks b) j == d) (range_with_len 0 i))) (not (any_before live b (λ c. has_number (blocks c) d)))
      (turned (list_any (λ j. number_at (blocks b) j == d) (range_with_len 0 i)) (any_none (λ j. number_at (blocks b) j == d) 0 i (λ j ge lt. g.distinct j (omega (arith, lt)))))
      (turned (any_before live b (λ c. has_number (blocks c) d)) (before_none live b low (λ c. has_number (blocks c) d) g.apart))))

  test_good : (i : ℕ) → is_good_number blocks live b i ≡ true → IsGood blocks live b i
  test_good i is =
      let d = number_at (blocks b) i in
      let one = and_parts (nat_le 2 d) (not (live d) && (not (list_any (λ j. number_at (blocks b) j == d) (range_with_len 0 i)) && not (any_before live b (λ c. has_number (blocks c) d)))) is in
      let two = and_parts (not (live d)) (not (list_any (λ j. number_at (blocks b) j == d) (range_with_len 0 i)) && not (any_before live b (λ c. has_number (blocks c) d))) one.1 in
      let three = and_parts (not (list_any (λ j. number_at (blocks b) j == d) (range_with_len 0 i))) (not (any_before live b (λ c. has_number (blocks c) d))) two.1 in
      record {
        low = one.0;
        dead = not_false (live d) two.0;
        distinct = λ j lt. none_any (λ k. number_at (blocks b) k == d) 0 i (not_false (list_any (λ k. number_at (blocks b) k == d) (range_with_len 0 i)) three.0) j (omega arith) (omega (arith, lt));
        apart = none_before live b low (λ c. has_number (blocks c) d) (not_false (any_before live b (λ c. has_number (blocks c) d)) three.1);
      }

  name_none : (r : Bool) → r ≡ false → cond {A = Option ℕ} r (Some 0) None ≡ None
  name_none r nay = cond-false {A = Option ℕ} r (Some 0) None nay

  none_name : (r : Bool) → cond {A = Option ℕ} r (Some 0) None ≡ None → r ≡ false
  none_name true is = absurd (cc (is))
  none_name false is = refl

  pub entry_fits : IsEntry blocks live b → entry_fault blocks live b ≡ None
  entry_fits e =
      next_none (cond {A = Option ℕ} (is_repeated blocks live b) (Some 0) None) (or_next (front_fault (blocks b)) (or_next (numbers_fault blocks live b) (rest_fault (blocks b))))
      (name_none (is_repeated blocks live b) (before_none live b low (λ c. name_eq (name_in (blocks c)) (name_in (blocks b))) e.single))
      (next_none (front_fault (blocks b)) (or_next (numbers_fault blocks live b) (rest_fault (blocks b))) e.front
      (next_none (numbers_fault blocks live b) (rest_fault (blocks b))
      (wrong_none (λ at. is_good_number blocks live b (at - 84)) 84 (data_blocks (size_in (blocks b))) (λ k ge lt. good_test (k - 84) (e.numbers (k - 84) (omega (arith, ge, lt))))) e.rest))

  pub fits_entry : entry_fault blocks live b ≡ None → IsEntry blocks live b
  fits_entry none =
      let one = none_next (cond {A = Option ℕ} (is_repeated blocks live b) (Some 0) None) (or_next (front_fault (blocks b)) (or_next (numbers_fault blocks live b) (rest_fault (blocks b)))) none in
      let two = none_next (front_fault (blocks b)) (or_next (numbers_fault blocks live b) (rest_fault (blocks b))) one.1 in
      let three = none_next (numbers_fault blocks live b) (rest_fault (blocks b)) two.1 in
      record {
        single = none_before live b low (λ c. name_eq (name_in (blocks c)) (name_in (blocks b))) (none_name (is_repeated blocks live b) one.0);
        front = two.0;
        numbers = λ i lt. test_good i (shifted i (none_wrong (λ at. is_good_number blocks live b (at - 84)) 84 (data_blocks (size_in (blocks b))) three.0 (84 + i) (omega arith) (omega (arith, lt))));
        rest = three.1;
      }
    where
      shifted : (i : ℕ) → is_good_number blocks live b (84 + i - 84) ≡ true → is_good_number blocks live b i ≡ true
      shifted i is = let e : 84 + i - 84 ≡ i = omega arith in subst (λ (k : ℕ). is_good_number blocks live b k ≡ true) e is

-- each live entry has its form
abbrev pub AreEntries : Blocks → Live → Type 0
AreEntries blocks live = (b : ℕ) → 2 ≤ b → b < 256 → live b ≡ true → IsEntry blocks live b

module _ (blocks : Blocks) (live : Live) where
  bad_none : (b n : ℕ) → 2 ≤ b → ((c : ℕ) → b ≤ c → c < b + n → live c ≡ true → IsEntry blocks live c) → first_bad blocks live b n ≡ None
  unfolding first_bad
  bad_none b zero low each = refl
  bad_none b (suc n) low each =
      ap (λ (o : Option ℕ). bad_at b o (first_bad blocks live (b + 1) n)) (by_live (live b) refl) ∙ bad_none (b + 1) n (omega (arith, low)) (λ c ge lt aye. each c (omega (arith, ge)) (omega (arith, lt)) aye)
    where
      by_live : (x : Bool) → live b ≡ x → cond x (entry_fault blocks live b) None ≡ None
      by_live true aye = entry_fits blocks live b low (each b (omega arith) (omega arith) aye)
      by_live false nay = refl

  parts_none : (b : ℕ) (o : Option ℕ) (next : Option BadCard) → bad_at b o next ≡ None → (o ≡ None) × (next ≡ None)
  parts_none b None next is = (refl, is)
  parts_none b (Some at) next is = absurd (cc (is))

  none_bad : (b n : ℕ) → 2 ≤ b → first_bad blocks live b n ≡ None → (c : ℕ) → b ≤ c → c < b + n → live c ≡ true → IsEntry blocks live c
  unfolding first_bad
  none_bad b zero low none c ge lt aye = absurd (omega (arith, ge, lt))
  none_bad b (suc n) low none c ge lt aye =
      let both = parts_none b (cond (live b) (entry_fault blocks live b) None) (first_bad blocks live (b + 1) n) none in
      elim (cases_lt b c) [
        | inl more ↦ none_bad (b + 1) n (omega (arith, low)) both.1 c (omega (arith, more)) (omega (arith, lt)) aye
        | inr le ↦
            let same : c ≡ b = omega (arith, le, ge) in
            subst (λ (k : ℕ). live k ≡ true → IsEntry blocks live k) (sym same)
            (λ there. fits_entry blocks live b low (sym (cond-true (live b) (entry_fault blocks live b) None there) ∙ both.0)) aye
      ]

-- that blocks hold a map
pub record HoldMap (blocks : Blocks) (m : CardMap) : Type 0 where
  pub map : map_fault (blocks 1) ≡ None
  pub entries : AreEntries blocks (is_live (blocks 1))
  pub is : objects_of blocks (is_live (blocks 1)) ≡ m

pub holds_map : (blocks : Blocks) (m : CardMap) → HoldMap blocks m → map_of_blocks blocks ≡ Ok m
holds_map blocks m h =
    let bad : bad_at 1 (map_fault (blocks 1)) (first_bad blocks (is_live (blocks 1)) 2 254) ≡ None =
    ap (λ (o : Option ℕ). bad_at 1 o (first_bad blocks (is_live (blocks 1)) 2 254)) h.map ∙ bad_none blocks (is_live (blocks 1)) 2 254 (omega arith) (λ c ge lt aye. h.entries c ge lt aye) in
    ap (map_or (objects_of blocks (is_live (blocks 1)))) bad ∙ ap (λ (x : CardMap). Ok x) h.is

pub map_holds : (blocks : Blocks) (m : CardMap) → map_of_blocks blocks ≡ Ok m → HoldMap blocks m
map_holds blocks m is = by_bad (bad_at 1 (map_fault (blocks 1)) (first_bad blocks (is_live (blocks 1)) 2 254)) refl is
  where
    by_bad : (o : Option BadCard) → bad_at 1 (map_fault (blocks 1)) (first_bad blocks (is_live (blocks 1)) 2 254) ≡ o → map_or (objects_of blocks (is_live (blocks 1))) o ≡ Ok m → HoldMap blocks m
    by_bad (Some bad) e is = absurd (cc (is))
    by_bad None e is =
        let both = parts_none blocks (is_live (blocks 1)) 1 (map_fault (blocks 1)) (first_bad blocks (is_live (blocks 1)) 2 254) e in
        record { map = both.0; entries = λ c ge lt aye. none_bad blocks (is_live (blocks 1)) 2 254 (omega arith) both.1 c ge lt aye; is = cc (is) }
