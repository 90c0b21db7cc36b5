-- First faults, found one byte after another.
use Rattle.std.proofs.Common.{◌≡◌, inl, inr, ℕ, zero, suc, ◌+◌, ◌-◌, ◌<◌, ◌≤◌, ◌==◌, ◌&&◌, ◌||◌, not, Bool, true, false, cond, List, length, map, take, drop, get_or, Option, Some, None, refl, sym, ap, ◌∙◌, arith}
use Rattle.std.specs.Prelude.{nat_le, slice_set}
use Rattle.std.specs.List.{list_any, range_with_len}
use Rattle.std.proofs.lemmas.Bool.{and_parts, cond-true, cond-false, eqb-true, leb-true}
use Rattle.std.proofs.lemmas.List.{ext_get_or, get_or-drop, get_or-set_other, get_or-set_same, get_or-take, length-drop, length-take-le, take-take}
use Rattle.std.proofs.lemmas.List.FromFn.{get_or-map-range_with_len, length-map-range_with_len}
use Rattle.card_maps.specs.Form.{data_blocks, field_fault, first_wrong, front_fault, id_fault, id_length, is_field, number_at, numbers_in, size_in}
use Rattle.card_maps.specs.Tables.{fresh_fault, is_fresh}
use Rattle.card_maps.proofs.Ranges.{later, none_next, none_wrong, not_same, wrong_none}
use Rattle.card_maps.proofs.Steps.{any_more}

-- the first that a test refuses
pub wrong_at : (p : ℕ → Bool) (at n b : ℕ) → at ≤ b → b < at + n → ((k : ℕ) → at ≤ k → k < b → p k ≡ true) → p b ≡ false → first_wrong p at n ≡ Some b
unfolding first_wrong
wrong_at p at zero b ge lt each no_more = absurd (omega (arith, ge, lt))
wrong_at p at (suc n) b ge lt each no_more = elim (later at b ge) [
  | inl same ↦ cond-false (p at) (first_wrong p (at + 1) n) (Some at) (ap p same ∙ no_more) ∙ ap (λ (k : ℕ). Some k) same
  | inr more ↦
      cond-true (p at) (first_wrong p (at + 1) n) (Some at) (each at (omega arith) (omega (arith, more)))
      ∙ wrong_at p (at + 1) n b more (omega (arith, lt)) (λ k from below. each k (omega (arith, from)) below) no_more
]

-- one more that a test passes
pub passed_on : (p : ℕ → Bool) (at b : ℕ) → ((k : ℕ) → at ≤ k → k < b → p k ≡ true) → p b ≡ true → (k : ℕ) → at ≤ k → k < b + 1 → p k ≡ true
passed_on p at b each here k ge lt = elim (later k b (omega (arith, lt))) [
  | inl same ↦ ap p same ∙ here
  | inr more ↦ each k ge (omega (arith, more))
]

-- WHAT THE FRONT OF AN ENTRY'S BLOCK SAYS
module _ (block : List ℕ) (none : front_fault block ≡ None) where
  fields : field_fault block ≡ None
  fields = (none_next (id_fault block) (field_fault block) none).1

  pub front_size : size_in block ≤ 16384
  front_size = leb-true (size_in block) 16384 (none_wrong (is_field block) 80 3 fields 82 (omega arith) (omega arith))

  pub front_length : (1 ≤ id_length block) × (id_length block ≤ 64)
  front_length =
      let both = and_parts (nat_le 1 (id_length block)) (nat_le (id_length block) 64) (none_wrong (is_field block) 80 3 fields 80 (omega arith) (omega arith)) in
      (leb-true 1 (id_length block) both.0, leb-true (id_length block) 64 both.1)

-- the numbers of an entry are bytes of its block
pub numbers_taken : (block : List ℕ) (n : ℕ) → n ≡ data_blocks (size_in block) → 84 + n ≤ length block → take n (drop 84 block) ≡ numbers_in block
numbers_taken block n count fits =
    let long : length (take n (drop 84 block)) ≡ n = length-take-le n (drop 84 block) (omega (arith, length-drop 84 block, fits)) in
    let other : length (numbers_in block) ≡ data_blocks (size_in block) = length-map-range_with_len (number_at block) 0 (data_blocks (size_in block)) in
    ext_get_or 0 (take n (drop 84 block)) (numbers_in block) (long ∙ count ∙ sym other) (λ i lt.
    let within : i < n = omega (arith, lt, long) in
    get_or-take n (drop 84 block) i 0 within ∙ get_or-drop 84 block i 0
    ∙ sym (get_or-map-range_with_len (number_at block) 0 (data_blocks (size_in block)) i i 0 (omega (arith, within, count)) (omega arith)))

-- NUMBERS THAT ARE USED ONE BY ONE
-- a number is fresh where it is not used with those before it
pub fresh_is : (a b c : Bool) → ((a && not b) && not c) ≡ (a && not (b || c))
fresh_is true true c = refl
fresh_is true false c = refl
fresh_is false b c = refl

module _ (used : ℕ → Bool) (block : List ℕ) where
  pub fresh_found : (i : ℕ) → i < data_blocks (size_in block) → ((k : ℕ) → k < i → is_fresh used block k ≡ true) → is_fresh used block i ≡ false
      → fresh_fault used block ≡ Some (84 + i)
  fresh_found i lt each here =
      wrong_at (λ at. is_fresh used block (at - 84)) 84 (data_blocks (size_in block)) (84 + i) (omega arith) (omega (arith, lt))
      (λ k ge below. each (k - 84) (omega (arith, ge, below)))
      (ap (is_fresh used block) (let e : 84 + i - 84 ≡ i = omega arith in e) ∙ here)

  pub fresh_none : ((k : ℕ) → k < data_blocks (size_in block) → is_fresh used block k ≡ true) → fresh_fault used block ≡ None
  fresh_none each = wrong_none (λ at. is_fresh used block (at - 84)) 84 (data_blocks (size_in block)) (λ k ge lt. each (k - 84) (omega (arith, ge, lt)))

  -- by what is used with the numbers before it
  pub fresh_by : (i : ℕ) (now : Bool) → now ≡ (used (number_at block i) || list_any (λ j. number_at block j == number_at block i) (range_with_len 0 i))
      → is_fresh used block i ≡ (nat_le 2 (number_at block i) && not now)
  fresh_by i now is =
      fresh_is (nat_le 2 (number_at block i)) (used (number_at block i)) (list_any (λ j. number_at block j == number_at block i) (range_with_len 0 i))
      ∙ ap (λ (x : Bool). nat_le 2 (number_at block i) && not x) (sym is)

-- which blocks are used with one number more
pub used_more : (old now : List Bool) (block : List ℕ) (i : ℕ) → number_at block i < length now
    → ((d : ℕ) → d < 256 → get_or now d true ≡ (get_or old d true || list_any (λ j. number_at block j == d) (range_with_len 0 i)))
    → (d : ℕ) → d < 256
    → get_or (slice_set now (number_at block i) true) d true ≡ (get_or old d true || list_any (λ j. number_at block j == d) (range_with_len 0 (i + 1)))
used_more old now block i within before d lt =
    let one = any_more (λ j. number_at block j == d) 0 i i (omega arith) in
    by_same (number_at block i == d) refl ∙ sym (ap (λ (x : Bool). get_or old d true || x) one)
  where
    or_true : (x y : Bool) → (x || (y || true)) ≡ true
    or_true true y = refl
    or_true false true = refl
    or_true false false = refl

    or_false : (x y : Bool) → (x || (y || false)) ≡ (x || y)
    or_false true y = refl
    or_false false true = refl
    or_false false false = refl

    by_same : (b : Bool) → (number_at block i == d) ≡ b
        → get_or (slice_set now (number_at block i) true) d true ≡ (get_or old d true || (list_any (λ j. number_at block j == d) (range_with_len 0 i) || b))
    by_same true is =
        ap (λ (k : ℕ). get_or (slice_set now (number_at block i) true) k true) (sym (eqb-true (number_at block i) d is))
        ∙ get_or-set_same now (number_at block i) true true within
        ∙ sym (or_true (get_or old d true) (list_any (λ j. number_at block j == d) (range_with_len 0 i)))
    by_same false is =
        get_or-set_other now (number_at block i) d true true (λ e. not_same (number_at block i) d is (sym e))
        ∙ before d lt ∙ sym (or_false (get_or old d true) (list_any (λ j. number_at block j == d) (range_with_len 0 i)))

-- the identifier, cut from the 64 bytes that hold it
pub id_taken : (block id : List ℕ) → id_length block ≤ 64 → (let taken : Option (List ℕ) = Some (take (id_length block) (take 64 (drop 16 block))) in taken ≡ Some id)
    → id ≡ take (id_length block) (drop 16 block)
id_taken block id short is =
    let same : take (id_length block) (take 64 (drop 16 block)) ≡ id = cc (is) in
    sym same ∙ take-take (id_length block) 64 (drop 16 block) short
