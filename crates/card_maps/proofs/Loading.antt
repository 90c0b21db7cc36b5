-- The table of a card, read entry by entry: it is the card's, or the first fault is that of the card.
use Rattle.std.proofs.Common.{◌≡◌, ◌≢◌, ◌⊎◌, inl, inr, ℕ, zero, suc, ◌+◌, ◌-◌, ◌<◌, ◌≤◌, ◌==◌, ◌&&◌, ◌||◌, not, Bool, true, false, cond, List, [], ◌∷◌, length, get_or, Option, Some, None, Err, refl, sym, ap, ◌∙◌, subst, true≢false, arith}
use Rattle.std.specs.Prelude.{nat_le, nat_lt, slice_set}
use Rattle.std.specs.List.{list_any, range_with_len}
use Rattle.std.proofs.lemmas.Bool.{false≢true, and_from, and_parts, cases_Bool, cases_lt, cond-true, cond-false, eqb-true, le-leb, leb-true, lt-ltb, ltb-true}
use Rattle.std.proofs.lemmas.List.{get_or-set_other, get_or-set_same, length-set}
use Rattle.store_model.specs.Name.{name_eq}
use Rattle.rpmb_card.specs.Card.{CardState}
use Rattle.card_maps.specs.Form.{data_blocks, first_wrong, front_fault, map_fault, name_in, number_at, or_next, rest_fault, size_in}
use Rattle.card_maps.specs.CardMaps.{BadCard, Blocks, Live, any_before, bad_at, blocks_of, card_map, entry_fault, first_bad, has_number, is_good_number, is_repeated, map_or, numbers_fault, objects_of}
use Rattle.card_maps.specs.CardWrites.{live_in}
use Rattle.card_maps.specs.Loading.{HasEntries, HasNone, IsAdded, IsRefused}
use Rattle.card_maps.specs.TableStates.{TableState}
use Rattle.card_maps.specs.Tables.{IsTableOf, entry_at, entry_fault_in, fresh_fault, has_name, is_fresh, is_used_at}
use Rattle.card_maps.proofs.Bits.{first_dead, live_low, second_dead}
use Rattle.card_maps.proofs.Ranges.{false_or, later, not_false, not_same, turned}
use Rattle.card_maps.proofs.Steps.{any_more}
use Rattle.card_maps.proofs.Users.{any_some, bool_ext, some_any}

-- some element passes
some_at : (p : Option (List ℕ) → Bool) (xs : List (Option (List ℕ))) → list_any p xs ≡ true → (k : ℕ) × (k < length xs) × (p (get_or xs k None) ≡ true)
some_at p [] is = absurd (false≢true is)
some_at p (x ∷ xs) is = elim (cases_Bool (p x)) [
  | inl here ↦ (0, omega arith, here)
  | inr nay ↦
      let more = some_at p xs (sym (ap (λ (b : Bool). b || list_any p xs) nay) ∙ is) in
      (suc more.0, omega (arith, more.1), more.2)
]

at_some : (p : Option (List ℕ) → Bool) (xs : List (Option (List ℕ))) (k : ℕ) → k < length xs → p (get_or xs k None) ≡ true → list_any p xs ≡ true
at_some p [] k lt is = absurd (omega (arith, lt))
at_some p (x ∷ xs) zero lt is = ap (λ (b : Bool). b || list_any p xs) is
at_some p (x ∷ xs) (suc k) lt is = ap (λ (b : Bool). p x || b) (at_some p xs k (omega (arith, lt)) is) ∙ or_true (p x)
  where
    or_true : (b : Bool) → (b || true) ≡ true
    or_true true = refl
    or_true false = refl

-- tests that agree refuse the same first
first_alike : (p q : ℕ → Bool) (at n : ℕ) → ((k : ℕ) → at ≤ k → k < at + n → p k ≡ q k) → first_wrong p at n ≡ first_wrong q at n
unfolding first_wrong
first_alike p q at zero same = refl
first_alike p q at (suc n) same =
    let here : p at ≡ q at = same at (omega arith) (omega arith) in
    let rest : first_wrong p (at + 1) n ≡ first_wrong q (at + 1) n = first_alike p q (at + 1) n (λ k ge lt. same k (omega (arith, ge)) (omega (arith, lt))) in
    λ i. cond (here i) (rest i) (Some at)

fresh_good : (up live before earlier : Bool) → ((up && not (not up || (live || before))) && not earlier) ≡ (up && (not live && (not earlier && not before)))
fresh_good true true before earlier = refl
fresh_good true false true true = refl
fresh_good true false true false = refl
fresh_good true false false true = refl
fresh_good true false false false = refl
fresh_good false live before earlier = refl

not_up : (d : ℕ) → nat_lt d 2 ≡ not (nat_le 2 d)
not_up d = bool_ext (nat_lt d 2) (not (nat_le 2 d))
    (λ is. turned (nat_le 2 d) (false_or (nat_le 2 d) (λ aye. absurd (omega (arith, ltb-true d 2 is, leb-true 2 d aye)))))
    (λ is. elim (cases_lt d 2) [
      | inl small ↦ lt-ltb d 2 small
      | inr ge ↦ absurd (true≢false (sym (le-leb 2 d ge) ∙ not_false (nat_le 2 d) is))
    ])

-- a bound that is one higher
wider : (c b : ℕ) → c ≢ b → nat_lt c b ≡ nat_lt c (b + 1)
wider c b ne = bool_ext (nat_lt c b) (nat_lt c (b + 1)) (λ is. lt-ltb c (b + 1) (omega (arith, ltb-true c b is))) (λ is. lt-ltb c b (below (later c b (omega (arith, ltb-true c (b + 1) is)))))
  where
    below : (c ≡ b) ⊎ (c + 1 ≤ b) → c < b
    below (inl same) = absurd (ne same)
    below (inr more) = omega (arith, more)

module _ (blocks : Blocks) (live : Live) (b : ℕ) (t : TableState) (live_from : (c : ℕ) → live c ≡ true → 2 ≤ c) (h : HasEntries blocks live b t) (ge : 2 ≤ b) (lt : b < 256) where
  -- an entry of that name is a lesser live one
  same_names : list_any (has_name (name_in (blocks b))) t.entries ≡ is_repeated blocks live b
  same_names = bool_ext (list_any (has_name (name_in (blocks b))) t.entries) (is_repeated blocks live b)
      (λ is.
      let k = some_at (has_name (name_in (blocks b))) t.entries is in
      let small : k.0 < 256 = omega (arith, k.1, h.long) in
      let there = was k.0 small k.2 in
      let both = and_parts (live k.0) (nat_lt k.0 b) there.0 in
      some_any (λ c. live c && name_eq (name_in (blocks c)) (name_in (blocks b))) 2 (b - 2) k.0 (live_from k.0 both.0) (omega (arith, ltb-true k.0 b both.1, ge))
      (and_from (live k.0) (name_eq (name_in (blocks k.0)) (name_in (blocks b))) both.0 there.1))
      (λ is.
      let c = any_some (λ c. live c && name_eq (name_in (blocks c)) (name_in (blocks b))) 2 (b - 2) is in
      let both = and_parts (live c.0) (name_eq (name_in (blocks c.0)) (name_in (blocks b))) c.3 in
      let below : c.0 < b = omega (arith, c.2, ge) in
      at_some (has_name (name_in (blocks b))) t.entries c.0 (omega (arith, below, lt, h.long))
      (ap (has_name (name_in (blocks b))) (h.entries c.0 (omega (arith, below, lt)) ∙ cond-true (live c.0 && nat_lt c.0 b) (Some (blocks c.0)) None (and_from (live c.0) (nat_lt c.0 b) both.0 (lt-ltb c.0 b below))) ∙ both.1))
    where
      was : (k : ℕ) → k < 256 → has_name (name_in (blocks b)) (entry_at t k) ≡ true → ((live k && nat_lt k b) ≡ true) × (name_eq (name_in (blocks k)) (name_in (blocks b)) ≡ true)
      was k small is = elim (cases_Bool (live k && nat_lt k b)) [
        | inl on ↦ (on, sym (ap (has_name (name_in (blocks b))) (h.entries k small ∙ cond-true (live k && nat_lt k b) (Some (blocks k)) None on)) ∙ is)
        | inr off ↦ absurd (true≢false (sym is ∙ ap (has_name (name_in (blocks b))) (h.entries k small ∙ cond-false (live k && nat_lt k b) (Some (blocks k)) None off)))
      ]

  module _ (bytes : (k : ℕ) → get_or (blocks b) k 0 < 256) where
    same_numbers : fresh_fault (is_used_at t) (blocks b) ≡ numbers_fault blocks live b
    same_numbers = first_alike (λ at. is_fresh (is_used_at t) (blocks b) (at - 84)) (λ at. is_good_number blocks live b (at - 84)) 84 (data_blocks (size_in (blocks b))) (λ k from to. one (k - 84))
      where
        one : (i : ℕ) → is_fresh (is_used_at t) (blocks b) i ≡ is_good_number blocks live b i
        one i =
            ap (λ (u : Bool). (nat_le 2 (number_at (blocks b) i) && not u) && not (list_any (λ j. number_at (blocks b) j == number_at (blocks b) i) (range_with_len 0 i)))
            (h.used (number_at (blocks b) i) (bytes (84 + i)) ∙ ap (λ (x : Bool). x || (live (number_at (blocks b) i) || any_before live b (λ c. has_number (blocks c) (number_at (blocks b) i)))) (not_up (number_at (blocks b) i)))
            ∙ fresh_good (nat_le 2 (number_at (blocks b) i)) (live (number_at (blocks b) i)) (any_before live b (λ c. has_number (blocks c) (number_at (blocks b) i)))
            (list_any (λ j. number_at (blocks b) j == number_at (blocks b) i) (range_with_len 0 i))

    pub same_fault : entry_fault_in t.entries (is_used_at t) (blocks b) ≡ entry_fault blocks live b
    same_fault =
        (λ i. or_next (cond {A = Option ℕ} (same_names i) (Some 0) None) (or_next (front_fault (blocks b)) (or_next (same_numbers i) (rest_fault (blocks b)))))

    -- one entry more
    pub entries_more : (u : TableState) → IsAdded (blocks b) b t u → live b ≡ true → HasEntries blocks live (b + 1) u
    entries_more u added on = record {
      long = ap length added.entries ∙ length-set t.entries b (Some (blocks b)) ∙ h.long;
      entries = λ c small. ap (λ (es : List (Option (List ℕ))). get_or es c None) added.entries ∙ entry_is c small;
      used = λ d small.
          added.used d small ∙ ap (λ (x : Bool). x || has_number (blocks b) d) (h.used d small)
          ∙ regroup (nat_lt d 2) (live d) (list_any (λ c. live c && has_number (blocks c) d) (range_with_len 2 (b - 2))) (has_number (blocks b) d)
          ∙ ap (λ (x : Bool). nat_lt d 2 || (live d || (list_any (λ c. live c && has_number (blocks c) d) (range_with_len 2 (b - 2)) || (x && has_number (blocks b) d)))) (sym on)
          ∙ ap (λ (x : Bool). nat_lt d 2 || (live d || x)) (sym (any_more (λ c. live c && has_number (blocks c) d) 2 (b - 2) b (omega (arith, ge))))
          ∙ ap (λ (n : ℕ). nat_lt d 2 || (live d || list_any (λ c. live c && has_number (blocks c) d) (range_with_len 2 n))) (let e : b - 2 + 1 ≡ b + 1 - 2 = omega (arith, ge) in e);
      fits = λ c from below there. elim (later c b (omega (arith, below))) [
        | inl same ↦ ap (entry_fault blocks live) same ∙ sym same_fault ∙ added.fits
        | inr more ↦ h.fits c from (omega (arith, more)) there
      ];
      bytes = λ c i below there less. elim (later c b (omega (arith, below))) [
        | inl same ↦ bytes_at_b c i same
        | inr more ↦ h.bytes c i (omega (arith, more)) there less
      ];
    }
      where
        regroup : (w x y z : Bool) → ((w || (x || y)) || z) ≡ (w || (x || (y || (true && z))))
        regroup true x y z = refl
        regroup false true y z = refl
        regroup false false true z = refl
        regroup false false false z = refl

        bytes_at_b : (c i : ℕ) → c ≡ b → number_at (blocks c) i < 256
        bytes_at_b c i same = subst (λ (k : ℕ). number_at (blocks k) i < 256) (sym same) (bytes (84 + i))

        entry_is : (c : ℕ) → c < 256 → get_or (slice_set t.entries b (Some (blocks b))) c None ≡ cond (live c && nat_lt c (b + 1)) (Some (blocks c)) None
        entry_is c small = elim (cases_Bool (c == b)) [
          | inl same ↦
              let is : c ≡ b = eqb-true c b same in
              ap (λ (k : ℕ). get_or (slice_set t.entries b (Some (blocks b))) k None) is ∙ get_or-set_same t.entries b (Some (blocks b)) None (omega (arith, lt, h.long))
              ∙ sym (ap (λ (k : ℕ). cond (live k && nat_lt k (b + 1)) (Some (blocks k)) None) is
              ∙ cond-true (live b && nat_lt b (b + 1)) (Some (blocks b)) None (and_from (live b) (nat_lt b (b + 1)) on (lt-ltb b (b + 1) (omega arith))))
          | inr other ↦
              get_or-set_other t.entries b c (Some (blocks b)) None (not_same c b other) ∙ h.entries c small
              ∙ ap (λ (x : Bool). cond (live c && x) (Some (blocks c)) None) (wider c b (not_same c b other))
        ]

-- no entry there
pub entries_skip : (blocks : Blocks) (live : Live) (b : ℕ) (t : TableState) → HasEntries blocks live b t → 2 ≤ b → live b ≡ false → HasEntries blocks live (b + 1) t
entries_skip blocks live b t h ge off = record {
  long = h.long;
  entries = λ c small. h.entries c small ∙ ap (λ (x : Bool). cond x (Some (blocks c)) None) (alike c);
  used = λ d small.
      h.used d small
      ∙ ap (λ (x : Bool). nat_lt d 2 || (live d || x)) (plain (list_any (λ c. live c && has_number (blocks c) d) (range_with_len 2 (b - 2))) (has_number (blocks b) d))
      ∙ ap (λ (x : Bool). nat_lt d 2 || (live d || (list_any (λ c. live c && has_number (blocks c) d) (range_with_len 2 (b - 2)) || (x && has_number (blocks b) d)))) (sym off)
      ∙ ap (λ (x : Bool). nat_lt d 2 || (live d || x)) (sym (any_more (λ c. live c && has_number (blocks c) d) 2 (b - 2) b (omega (arith, ge))))
      ∙ ap (λ (n : ℕ). nat_lt d 2 || (live d || list_any (λ c. live c && has_number (blocks c) d) (range_with_len 2 n))) (let e : b - 2 + 1 ≡ b + 1 - 2 = omega (arith, ge) in e);
  fits = λ c from below there. h.fits c from (less c there below) there;
  bytes = λ c i below there inside. h.bytes c i (less c there below) there inside;
}
  where
    less : (c : ℕ) → live c ≡ true → c < b + 1 → c < b
    less c there below = elim (later c b (omega (arith, below))) [
      | inl same ↦ absurd (true≢false (sym there ∙ ap live same ∙ off))
      | inr more ↦ omega (arith, more)
    ]

    plain : (y z : Bool) → y ≡ (y || (false && z))
    plain true z = refl
    plain false z = refl

    alike : (c : ℕ) → (live c && nat_lt c b) ≡ (live c && nat_lt c (b + 1))
    alike c = elim (cases_Bool (c == b)) [
      | inr other ↦ ap (λ (x : Bool). live c && x) (wider c b (not_same c b other))
      | inl same ↦
          let dead : live c ≡ false = ap live (eqb-true c b same) ∙ off in
          ap (λ (x : Bool). x && nat_lt c b) dead ∙ sym (ap (λ (x : Bool). x && nat_lt c (b + 1)) dead)
    ]

-- before the first
pub entries_none : (blocks : Blocks) (live : Live) (t : TableState) → ((c : ℕ) → live c ≡ true → 2 ≤ c) → HasNone live t → HasEntries blocks live 2 t
entries_none blocks live t live_from n = record {
  long = n.long;
  entries = λ c small. n.entries c ∙ sym (cond-false (live c && nat_lt c 2) (Some (blocks c)) None (false_or (live c && nat_lt c 2) (λ is.
      let both = and_parts (live c) (nat_lt c 2) is in absurd (omega (arith, live_from c both.0, ltb-true c 2 both.1)))));
  used = λ d small. n.used d small ∙ ap (λ (x : Bool). nat_lt d 2 || x) (or_none (live d));
  fits = λ c from below there. absurd (omega (arith, from, below));
  bytes = λ c i below there less. absurd (omega (arith, live_from c there, below));
}
  where
    or_none : (x : Bool) → x ≡ (x || false)
    or_none true = refl
    or_none false = refl

-- THE FIRST FAULT
module _ (blocks : Blocks) (live : Live) where
  bad_none : (a n : ℕ) → ((c : ℕ) → a ≤ c → c < a + n → live c ≡ true → entry_fault blocks live c ≡ None) → first_bad blocks live a n ≡ None
  unfolding first_bad
  bad_none a zero each = refl
  bad_none a (suc n) each =
      ap (λ (o : Option ℕ). bad_at a o (first_bad blocks live (a + 1) n)) (by_live (live a) refl) ∙ bad_none (a + 1) n (λ c ge lt on. each c (omega (arith, ge)) (omega (arith, lt)) on)
    where
      by_live : (x : Bool) → live a ≡ x → cond x (entry_fault blocks live a) None ≡ None
      by_live true on = each a (omega arith) (omega arith) on
      by_live false off = refl

  bad_found : (b offset : ℕ) → live b ≡ true → entry_fault blocks live b ≡ Some offset → (a n : ℕ) → a ≤ b → b < a + n
      → ((c : ℕ) → a ≤ c → c < b → live c ≡ true → entry_fault blocks live c ≡ None) → first_bad blocks live a n ≡ Some (record { block = b; offset = offset })
  unfolding first_bad
  bad_found b offset on fault a zero le lt each = absurd (omega (arith, le, lt))
  bad_found b offset on fault a (suc n) le lt each = elim (later a b le) [
    | inl same ↦
        ap (λ (o : Option ℕ). bad_at a o (first_bad blocks live (a + 1) n)) (cond-true (live a) (entry_fault blocks live a) None (ap live same ∙ on) ∙ ap (entry_fault blocks live) same ∙ fault)
        ∙ ap (λ (k : ℕ). let o : Option BadCard = Some (record { block = k; offset = offset }) in o) same
    | inr more ↦
        ap (λ (o : Option ℕ). bad_at a o (first_bad blocks live (a + 1) n)) (by_live more (live a) refl)
        ∙ bad_found b offset on fault (a + 1) n more (omega (arith, lt)) (λ c ge less there. each c (omega (arith, ge)) less there)
  ]
    where
      by_live : a + 1 ≤ b → (x : Bool) → live a ≡ x → cond x (entry_fault blocks live a) None ≡ None
      by_live more true there = each a (omega arith) (omega (arith, more)) there
      by_live more false off = refl

-- THE CARD
module _ (card : CardState) where
  pub map_refused : (offset : ℕ) → map_fault (blocks_of card 1) ≡ Some offset → card_map card ≡ Err (record { block = 1; offset = offset })
  map_refused offset is = ap (λ (o : Option ℕ). map_or (objects_of (blocks_of card) (live_in card)) (bad_at 1 o (first_bad (blocks_of card) (live_in card) 2 254))) is

  module _ (formed : map_fault (blocks_of card 1) ≡ None) where
    pub live_from : (c : ℕ) → live_in card c ≡ true → 2 ≤ c
    live_from c on = elim (cases_lt c 2) [
      | inr ge ↦ ge
      | inl small ↦ elim (later c 1 (omega (arith, small))) [
        | inl one ↦ absurd (true≢false (sym on ∙ ap (live_in card) one ∙ second_dead (blocks_of card 1) formed))
        | inr zeroth ↦ absurd (true≢false (sym on ∙ ap (live_in card) (let e : c ≡ 0 = omega (arith, zeroth) in e) ∙ first_dead (blocks_of card 1) formed))
      ]
    ]

    pub entry_refused : (b offset : ℕ) (t : TableState) → 2 ≤ b → b < 256 → live_in card b ≡ true → HasEntries (blocks_of card) (live_in card) b t → IsRefused (blocks_of card b) t offset
        → card_map card ≡ Err (record { block = b; offset = offset })
    entry_refused b offset t ge lt on h refused =
        let fault : entry_fault (blocks_of card) (live_in card) b ≡ Some offset = sym (same_fault (blocks_of card) (live_in card) b t live_from h ge lt refused.bytes) ∙ refused.fault in
        ap (λ (o : Option ℕ). map_or (objects_of (blocks_of card) (live_in card)) (bad_at 1 o (first_bad (blocks_of card) (live_in card) 2 254))) formed
        ∙ ap (map_or (objects_of (blocks_of card) (live_in card))) (bad_found (blocks_of card) (live_in card) b offset on fault 2 254 ge (omega (arith, lt)) (λ c from below there. h.fits c from below there))

    pub table_read : (t : TableState) → HasEntries (blocks_of card) (live_in card) 256 t → IsTableOf t card (objects_of (blocks_of card) (live_in card))
    table_read t h = record {
      map = ap (λ (o : Option ℕ). map_or (objects_of (blocks_of card) (live_in card)) (bad_at 1 o (first_bad (blocks_of card) (live_in card) 2 254))) formed
          ∙ ap (map_or (objects_of (blocks_of card) (live_in card))) (bad_none (blocks_of card) (live_in card) 2 254 (λ c ge lt on. h.fits c ge lt on));
      long = h.long;
      entries = λ c lt. h.entries c lt ∙ ap (λ (x : Bool). cond x (Some (blocks_of card c)) None) (all (live_in card c) (nat_lt c 256) (lt-ltb c 256 lt));
      used = λ d lt. h.used d lt;
      bytes = λ b i on less. h.bytes b i (live_low (blocks_of card 1) b on) on less;
    }
      where
        all : (x y : Bool) → y ≡ true → (x && y) ≡ x
        all true y is = is
        all false y is = refl
