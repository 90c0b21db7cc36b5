-- The entry of a name, found in the table of a card.
use Rattle.std.proofs.Common.{◌≡◌, ◌≢◌, inl, inr, ℕ, ◌<◌, ◌≤◌, ◌==◌, Bool, true, false, cond, List, length, get_or, Option, Some, None, refl, sym, ap, ◌∙◌, true≢false, arith}
use Rattle.std.specs.Prelude.{nat_lt, position}
use Rattle.std.specs.List.{position_or_len}
use Rattle.std.proofs.lemmas.Bool.{cases_Bool, cases_lt, cond-true, cond-false, eq-eqb, eqb-true, lt-ltb}
use Rattle.std.proofs.lemmas.List.Quantifiers.{position-Some}
use Rattle.std.proofs.lemmas.List.Sums.{fails_before_first}
use Rattle.store_model.specs.declared.name.ObjectName.{ObjectName}
use Rattle.store_model.specs.Name.{name_eq}
use Rattle.rpmb_card.specs.Card.{CardState}
use Rattle.card_maps.specs.Form.{name_in}
use Rattle.card_maps.specs.CardMaps.{CardMap, blocks_of}
use Rattle.card_maps.specs.CardWrites.{live_in}
use Rattle.card_maps.specs.TableStates.{TableState}
use Rattle.card_maps.specs.Tables.{IsTableOf, entry_at, has_name, is_at}
use Rattle.card_maps.proofs.Bits.{first_dead, second_dead}
use Rattle.card_maps.proofs.Entries.{HoldMap, map_holds}
use Rattle.card_maps.proofs.Ranges.{later, name_turned, same_name}

-- where none passes a test
pub position_none : {X : Type 0} (p : X → Bool) (xs : List X) (d : X) → position p xs ≡ None → (k : ℕ) → k < length xs → p (get_or xs k d) ≡ false
position_none p xs d none k lt = elim (cases_lt (position_or_len p xs) (length xs)) [
  | inl found ↦ absurd (some_none (position_or_len p xs) (sym (cond-true (nat_lt (position_or_len p xs) (length xs)) (Some (position_or_len p xs)) None (lt-ltb (position_or_len p xs) (length xs) found)) ∙ none))
  | inr past ↦ fails_before_first p xs k d (omega (arith, lt, past))
]
  where
    some_none : (n : ℕ) → (let o : Option ℕ = Some n in o ≡ None) → ⊥
    some_none n is = absurd (cc (is))

module _ (t : TableState) (card : CardState) (m : CardMap) (table : IsTableOf t card m) where
  pub held : HoldMap (blocks_of card) m
  held = map_holds (blocks_of card) m table.map

  -- a live entry is from 2 on
  pub live_up : (c : ℕ) → live_in card c ≡ true → 2 ≤ c
  live_up c on = elim (cases_lt c 2) [
    | inr ge ↦ ge
    | inl small ↦ elim (later c 1 (omega (arith, small))) [
      | inl one ↦ absurd (true≢false (sym on ∙ ap (live_in card) one ∙ second_dead (blocks_of card 1) held.map))
      | inr zero ↦ absurd (true≢false (sym on ∙ ap (live_in card) (let e : c ≡ 0 = omega (arith, zero) in e) ∙ first_dead (blocks_of card 1) held.map))
    ]
  ]

  pub entry_live : (c : ℕ) → c < 256 → live_in card c ≡ true → entry_at t c ≡ Some (blocks_of card c)
  entry_live c lt on = table.entries c lt ∙ cond-true (live_in card c) (Some (blocks_of card c)) None on

  pub entry_dead : (c : ℕ) → c < 256 → live_in card c ≡ false → entry_at t c ≡ None
  entry_dead c lt off = table.entries c lt ∙ cond-false (live_in card c) (Some (blocks_of card c)) None off

  -- an entry that has a name is live
  named_live : (name : ObjectName) (c : ℕ) → c < 256 → has_name name (entry_at t c) ≡ true → (live_in card c ≡ true) × (name_eq (name_in (blocks_of card c)) name ≡ true)
  named_live name c lt is = elim (cases_Bool (live_in card c)) [
    | inl on ↦ (on, sym (ap (has_name name) (entry_live c lt on)) ∙ is)
    | inr off ↦ absurd (true≢false (sym is ∙ ap (has_name name) (entry_dead c lt off)))
  ]

  module _ (name : ObjectName) where
    -- a live entry has the name exactly where it is the one that is found
    pub found_is : (c : ℕ) → 2 ≤ c → c < 256 → live_in card c ≡ true → is_at (position (has_name name) t.entries) c ≡ name_eq (name_in (blocks_of card c)) name
    found_is c ge lt on = by_place (position (has_name name) t.entries) refl
      where
        other : (o : ℕ) → o < 256 → has_name name (entry_at t o) ≡ true → c ≢ o → name_eq (name_in (blocks_of card c)) name ≡ false
        other o less has ne =
            let there = named_live name o less has in
            let up : 2 ≤ o = live_up o there.0 in
            let named : name_in (blocks_of card o) ≡ name = same_name (name_in (blocks_of card o)) name there.1 in
            elim (cases_lt c o) [
              | inl before ↦ ap (name_eq (name_in (blocks_of card c))) (sym named) ∙ (held.entries o up less there.0).single c ge before on
              | inr behind ↦ elim (later o c behind) [
                | inl same ↦ absurd (ne (sym same))
                | inr more ↦ ap (name_eq (name_in (blocks_of card c))) (sym named)
                    ∙ name_turned (name_in (blocks_of card o)) (name_in (blocks_of card c)) ((held.entries c ge lt on).single o up (omega (arith, more)) there.0)
              ]
            ]

        by_place : (place : Option ℕ) → position (has_name name) t.entries ≡ place → is_at place c ≡ name_eq (name_in (blocks_of card c)) name
        by_place None is =
            sym (sym (ap (has_name name) (entry_live c lt on)) ∙ position_none (has_name name) t.entries None is c (omega (arith, lt, table.long)))
        by_place (Some o) is =
            let some = position-Some (has_name name) t.entries o None is in
            elim (cases_Bool (c == o)) [
              | inl same ↦ same ∙ sym (ap (λ (k : ℕ). name_eq (name_in (blocks_of card k)) name) (eqb-true c o same) ∙ (named_live name o (omega (arith, some.0, table.long)) some.1).1)
              | inr apart ↦ apart ∙ sym (other o (omega (arith, some.0, table.long)) some.1 (λ e. true≢false (sym (eq-eqb c o e) ∙ apart)))
            ]

    -- the place that is found is a live entry of the name
    pub found_live : (o : ℕ) → position (has_name name) t.entries ≡ Some o → (2 ≤ o) × (o < 256) × (live_in card o ≡ true) × (name_eq (name_in (blocks_of card o)) name ≡ true)
    found_live o is =
        let some = position-Some (has_name name) t.entries o None is in
        let lt : o < 256 = omega (arith, some.0, table.long) in
        let there = named_live name o lt some.1 in
        (live_up o there.0, lt, there.0, there.1)
