-- The block of an entry is read back.
use Rattle.std.proofs.Common.{◌≡◌, ◌⊎◌, ℕ, zero, suc, ◌+◌, ◌-◌, ◌<◌, ◌≤◌, ◌==◌, ◌&&◌, ◌||◌, Bool, true, cond, List, [], ◌∷◌, ◌++◌, length, map, drop, get_or, None, refl, sym, ap, ◌∙◌, subst, arith}
use Rattle.std.proofs.Math.Seq.{get_or-append_right}
use Rattle.std.proofs.lemmas.List.{ext_get_or, get_or_append_left, get_or-drop, get_or-replicate, length-replicate}
use Rattle.std.proofs.lemmas.List.FromFn.{get_or-map-range_with_len, length-map-range_with_len}
use Rattle.std.specs.List.{range_with_len}
use Rattle.std.proofs.lemmas.Bool.{and_from, cases_lt, eq-eqb, le-leb, lt-ltb, or_left, or_right}
use Rattle.std.proofs.Common.{inl, inr}
use Rattle.std.specs.Prelude.{nat_le, nat_lt}
use Rattle.card_maps.specs.Form.{first_wrong, front_fault, rest_fault, most_card_bytes}
use Rattle.card_maps.proofs.Ranges.{next_none, wrong_none}
use Rattle.std.specs.Prelude.{replicate}
use Rattle.std.specs.Int.{w16, from_be_bytes, to_be_bytes}
use Rattle.std.proofs.lemmas.Nat.{from_be_bytes-to_be_bytes_2}
use Rattle.byte_fields.specs.Field.{field}
use Rattle.byte_fields.proofs.Fields.{field_here, rest_after}
use Rattle.store_model.specs.declared.name.ObjectName.{ObjectName}
use Rattle.card_maps.specs.Form.{byte_at, data_blocks, id_length, name_in, number_at, numbers_in, size_in}
use Rattle.card_maps.specs.Puts.{entry_block}

first_byte : (block : List ℕ) (n x : ℕ) (rest : List ℕ) → drop n block ≡ x ∷ rest → get_or block n 0 ≡ x
first_byte [] zero x rest is = absurd (cc (is))
first_byte [] (suc n) x rest is = absurd (cc (is))
first_byte (y ∷ block) zero x rest is = cc (is)
first_byte (y ∷ block) (suc n) x rest is = first_byte block n x rest is

module _ (name : ObjectName) (size : ℕ) (numbers : List ℕ) (app : length name.app ≡ 16) (short : length name.id ≤ 64) (fits : size ≤ 16384) (many : length numbers ≡ data_blocks size) where
  abbrev B : List ℕ
  B = entry_block name size numbers

  abbrev behind : List ℕ
  behind = length name.id ∷ 0 ∷ to_be_bytes w16 size ++ (numbers ++ replicate (172 - length numbers) 0)

  at_16 : drop 16 B ≡ name.id ++ (replicate (64 - length name.id) 0 ++ behind)
  at_16 = rest_after B name.app _ 0 16 16 refl app refl

  at_pad : drop (16 + length name.id) B ≡ replicate (64 - length name.id) 0 ++ behind
  at_pad = rest_after B name.id _ 16 (length name.id) (16 + length name.id) at_16 refl refl

  at_80 : drop 80 B ≡ behind
  at_80 = rest_after B (replicate (64 - length name.id) 0) behind (16 + length name.id) (64 - length name.id) 80 at_pad (length-replicate (64 - length name.id) 0) (omega (arith, short))

  at_82 : drop 82 B ≡ to_be_bytes w16 size ++ (numbers ++ replicate (172 - length numbers) 0)
  at_82 = rest_after B (length name.id ∷ 0 ∷ []) (to_be_bytes w16 size ++ (numbers ++ replicate (172 - length numbers) 0)) 80 2 82 at_80 refl refl

  long_is : id_length B ≡ length name.id
  long_is = first_byte B 80 (length name.id) _ at_80

  pub name_back : name_in B ≡ name
  name_back =
      let id : field 16 (id_length B) B ≡ name.id = ap (λ (n : ℕ). field 16 n B) long_is ∙ field_here B name.id _ 16 (length name.id) at_16 refl in
      let own : field 0 16 B ≡ name.app = field_here B name.app _ 0 16 refl app in
      λ i. record { app = own i; id = id i }

  pub size_back : size_in B ≡ size
  size_back = ap (from_be_bytes w16) (field_here B (to_be_bytes w16 size) _ 82 2 at_82 refl) ∙ from_be_bytes-to_be_bytes_2 size (omega (arith, fits))

  at_84 : drop 84 B ≡ numbers ++ replicate (172 - length numbers) 0
  at_84 = rest_after B (to_be_bytes w16 size) (numbers ++ replicate (172 - length numbers) 0) 82 2 84 at_82 refl refl

  byte_from : (n i : ℕ) (rest : List ℕ) → drop n B ≡ rest → byte_at B (n + i) ≡ get_or rest i 0
  byte_from n i rest is = sym (get_or-drop n B i 0) ∙ ap (λ (l : List ℕ). get_or l i 0) is

  count_back : data_blocks (size_in B) ≡ length numbers
  count_back = ap data_blocks size_back ∙ sym many

  pub number_back : (i : ℕ) → i < length numbers → number_at B i ≡ get_or numbers i 0
  number_back i lt = byte_from 84 i (numbers ++ replicate (172 - length numbers) 0) at_84 ∙ get_or_append_left numbers (replicate (172 - length numbers) 0) 0 i lt

  pub numbers_back : numbers_in B ≡ numbers
  numbers_back =
      let long : length (numbers_in B) ≡ length numbers = length-map-range_with_len (number_at B) 0 (data_blocks (size_in B)) ∙ count_back in
      ext_get_or 0 (numbers_in B) numbers long (λ i lt.
      get_or-map-range_with_len (number_at B) 0 (data_blocks (size_in B)) i i 0 (omega (arith, lt, long, count_back)) (omega arith) ∙ number_back i (omega (arith, lt, long)))

  few : length numbers ≤ 64
  few = omega (arith, many, fits)

  pub rest_back : rest_fault B ≡ None
  rest_back = wrong_none (λ at. byte_at B at == 0) (84 + data_blocks (size_in B)) (172 - data_blocks (size_in B)) (λ at ge lt.
      let place : 84 + (at - 84) ≡ at = omega (arith, ge) in
      eq-eqb (byte_at B at) 0 (ap (byte_at B) (sym place) ∙ byte_from 84 (at - 84) (numbers ++ replicate (172 - length numbers) 0) at_84
      ∙ get_or-append_right numbers (replicate (172 - length numbers) 0) (at - 84) 0 (omega (arith, ge, count_back))
      ∙ get_or-replicate (172 - length numbers) (at - 84 - length numbers) 0 0 (omega (arith, ge, lt, count_back, few))))

  at_81 : drop 81 B ≡ 0 ∷ to_be_bytes w16 size ++ (numbers ++ replicate (172 - length numbers) 0)
  at_81 = rest_after B (length name.id ∷ []) (0 ∷ to_be_bytes w16 size ++ (numbers ++ replicate (172 - length numbers) 0)) 80 1 81 at_80 refl refl

  abbrev test_16 : ℕ → Bool
  test_16 at = nat_lt at (16 + id_length B) || (byte_at B at == 0)

  abbrev test_80 : ℕ → Bool
  test_80 at = cond (at == 80) (nat_le 1 (id_length B) && nat_le (id_length B) 64) (cond (at == 81) (byte_at B 81 == 0) (nat_le (size_in B) most_card_bytes))

  in_id : (at : ℕ) → 16 ≤ at → at < 80 → (at < 16 + id_length B) ⊎ (16 + id_length B ≤ at) → test_16 at ≡ true
  in_id at ge lt (inl low) = or_left (nat_lt at (16 + id_length B)) (byte_at B at == 0) (lt-ltb at (16 + id_length B) low)
  in_id at ge lt (inr high) =
      let place : at ≡ 16 + length name.id + (at - (16 + length name.id)) = omega (arith, high, long_is) in
      or_right (nat_lt at (16 + id_length B)) (byte_at B at == 0) (eq-eqb (byte_at B at) 0
      (ap (byte_at B) place
      ∙ byte_from (16 + length name.id) (at - (16 + length name.id)) (replicate (64 - length name.id) 0 ++ behind) at_pad
      ∙ get_or_append_left (replicate (64 - length name.id) 0) behind 0 (at - (16 + length name.id)) (omega (arith, high, lt, long_is, length-replicate {A = ℕ} (64 - length name.id) 0))
      ∙ get_or-replicate (64 - length name.id) (at - (16 + length name.id)) 0 0 (omega (arith, high, lt, long_is))))

  by_three : (P : ℕ → Type 0) → P 80 → P 81 → P 82 → (at : ℕ) → 80 ≤ at → at < 83 → P at
  by_three P a b c at ge lt = elim (cases_lt at 81) [
    | inl low ↦ (let e : 80 ≡ at = omega (arith, ge, low) in subst P e a)
    | inr high ↦ elim (cases_lt at 82) [
      | inl low ↦ (let e : 81 ≡ at = omega (arith, high, low) in subst P e b)
      | inr last ↦ (let e : 82 ≡ at = omega (arith, last, lt) in subst P e c)
    ]
  ]

  module _ (some : 1 ≤ length name.id) where
    length_good : (nat_le 1 (id_length B) && nat_le (id_length B) 64) ≡ true
    length_good = and_from (nat_le 1 (id_length B)) (nat_le (id_length B) 64) (le-leb 1 (id_length B) (omega (arith, some, long_is))) (le-leb (id_length B) 64 (omega (arith, short, long_is)))

    zero_good : (byte_at B 81 == 0) ≡ true
    zero_good = eq-eqb (byte_at B 81) 0 (first_byte B 81 0 _ at_81)

    size_good : nat_le (size_in B) most_card_bytes ≡ true
    size_good = le-leb (size_in B) 16384 (omega (arith, fits, size_back))

    pub front_back : front_fault B ≡ None
    front_back = next_none (first_wrong test_16 16 64) (first_wrong test_80 80 3)
        (wrong_none test_16 16 64 (λ at ge lt. in_id at ge (omega (arith, lt)) (cases_lt at (16 + id_length B))))
        (wrong_none test_80 80 3 (λ at ge lt. by_three (λ n. test_80 n ≡ true) length_good zero_good size_good at ge (omega (arith, lt))))
