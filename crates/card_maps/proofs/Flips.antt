-- The write of the map block makes the map the one after a put, or after a removal.
use Rattle.std.proofs.Common.{◌≡◌, ◌≢◌, ◌⊎◌, inl, inr, ℕ, zero, suc, ◌+◌, ◌-◌, ◌<◌, ◌≤◌, ◌==◌, ◌&&◌, ◌||◌, not, Bool, true, false, cond, List, ◌∷◌, Option, Some, None, Ok, refl, sym, ap, ◌∙◌, subst, true≢false, arith}
use Rattle.std.specs.Prelude.{nat_le}
use Rattle.std.proofs.lemmas.Bool.{and_from, and_left, and_parts, cases_Bool, cases_lt, cond-true, cond-false, eq-eqb, eqb-true, le-leb, leb-true, or_from, or_left, or_right}
use Rattle.store_model.specs.declared.name.ObjectName.{ObjectName}
use Rattle.store_model.specs.Name.{name_eq}
use Rattle.card_maps.specs.Form.{data_blocks, front_fault, is_live, map_fault, name_in, number_at, rest_fault, size_in}
use Rattle.card_maps.specs.CardMaps.{Blocks, CardMap, CardObject, Live, bytes_at, has_number, map_of_blocks, objects_from, objects_of, object_in}
use Rattle.card_maps.specs.Puts.{IsReady, MapWritesFlip, MapWritesClear, live_after, live_without, map_block, with_block}
use Rattle.card_maps.proofs.Ranges.{differ, false_or, later, name_turned, not_false, not_same, same_name, self_name, true_or, turned}
use Rattle.card_maps.proofs.Bits.{first_dead, live_low, map_formed, map_says, second_dead}
use Rattle.card_maps.proofs.Entries.{AreEntries, HoldMap, IsEntry, IsGood, holds_map, map_holds}
use Rattle.card_maps.proofs.Lists.{moved_entry, no_number, number_none, same_object, written_off}

-- ENTRIES UNDER ANOTHER SET
-- `other` has the same blocks from 2 on; under `next` those of `live` are entries that are not old, and perhaps entry b.
module _ (blocks other : Blocks) (live next : Live) (is_old : ℕ → Bool) (same : (c : ℕ) → 2 ≤ c → other c ≡ blocks c) (entries : AreEntries blocks live) where
  -- all numbers of an entry are from 2 on
  number_low : (c : ℕ) → 2 ≤ c → c < 256 → live c ≡ true → (d : ℕ) → has_number (blocks c) d ≡ true → 2 ≤ d
  number_low c ge lt aye d has = elim (cases_lt d 2) [
    | inr low ↦ low
    | inl small ↦ absurd (true≢false (sym has ∙ no_number (blocks c) d (λ i within.
        differ (number_at (blocks c) i) d (λ is. absurd (omega (arith, small, is, leb-true 2 (number_at (blocks c) i) ((entries c ge lt aye).numbers i within).low))))))
  ]

  pub object_stays : (c : ℕ) → 2 ≤ c → c < 256 → live c ≡ true → object_in other c ≡ object_in blocks c
  object_stays c ge lt aye = same_object blocks other c (same c ge) (λ d has. same d (number_low c ge lt aye d has))

  -- an entry that stays
  module _ (b : ℕ) (back : (c : ℕ) → c ≢ b → next c ≡ true → (live c ≡ true) × (is_old c ≡ false)) where
    pub entry_stays : (apart : (c : ℕ) → 2 ≤ c → c < 256 → live c ≡ true → is_old c ≡ false → next b ≡ true → name_eq (name_in (blocks b)) (name_in (blocks c)) ≡ false)
        → (unnamed : (c : ℕ) → 2 ≤ c → c < 256 → live c ≡ true → next b ≡ true → has_number (blocks c) b ≡ false)
        → (strange : (c : ℕ) → 2 ≤ c → c < 256 → live c ≡ true → (i : ℕ) → i < data_blocks (size_in (blocks c)) → next b ≡ true → has_number (blocks b) (number_at (blocks c) i) ≡ false)
        → (c : ℕ) → 2 ≤ c → c < 256 → c ≢ b → next c ≡ true → IsEntry other next c
    entry_stays apart unnamed strange c ge lt ne there =
        let was = back c ne there in
        let e = entries c ge lt was.0 in
        moved_entry blocks other live next c e (same c ge)
        (λ k low below stands. ap (λ (x : List ℕ). name_eq (name_in x) (name_in (blocks c))) (same k low) ∙ names k low below stands (cases_Bool (k == b)))
        (λ i within. false_or (next (number_at (blocks c) i)) (λ stands. dead i within stands (cases_Bool (number_at (blocks c) i == b))))
        (λ k low below stands i within. ap (λ (x : List ℕ). has_number x (number_at (blocks c) i)) (same k low) ∙ numbers k low below stands i within (cases_Bool (k == b)))
      where
        names : (k : ℕ) → 2 ≤ k → k < c → next k ≡ true → ((k == b) ≡ true) ⊎ ((k == b) ≡ false) → name_eq (name_in (blocks k)) (name_in (blocks c)) ≡ false
        names k low below stands (inl is) =
            ap (λ (j : ℕ). name_eq (name_in (blocks j)) (name_in (blocks c))) (eqb-true k b is) ∙ apart c ge lt ((back c ne there).0) ((back c ne there).1) (ap next (sym (eqb-true k b is)) ∙ stands)
        names k low below stands (inr nay) = (entries c ge lt ((back c ne there).0)).single k low below ((back k (not_same k b nay) stands).0)

        dead : (i : ℕ) → i < data_blocks (size_in (blocks c)) → next (number_at (blocks c) i) ≡ true → ((number_at (blocks c) i == b) ≡ true) ⊎ ((number_at (blocks c) i == b) ≡ false) → ⊥
        dead i within stands (inl is) = true≢false (sym is ∙ number_none (blocks c) b (unnamed c ge lt ((back c ne there).0) (ap next (sym (eqb-true (number_at (blocks c) i) b is)) ∙ stands)) i within)
        dead i within stands (inr nay) = true≢false (sym ((back (number_at (blocks c) i) (not_same (number_at (blocks c) i) b nay) stands).0) ∙ ((entries c ge lt ((back c ne there).0)).numbers i within).dead)

        numbers : (k : ℕ) → 2 ≤ k → k < c → next k ≡ true → (i : ℕ) → i < data_blocks (size_in (blocks c)) → ((k == b) ≡ true) ⊎ ((k == b) ≡ false)
            → has_number (blocks k) (number_at (blocks c) i) ≡ false
        numbers k low below stands i within (inl is) =
            ap (λ (j : ℕ). has_number (blocks j) (number_at (blocks c) i)) (eqb-true k b is)
            ∙ strange c ge lt ((back c ne there).0) i within (ap next (sym (eqb-true k b is)) ∙ stands)
        numbers k low below stands i within (inr nay) = ((entries c ge lt ((back c ne there).0)).numbers i within).apart k low below ((back k (not_same k b nay) stands).0)

-- THE MAP BLOCK IS WRITTEN
module _ (blocks : Blocks) (m : CardMap) (is : map_of_blocks blocks ≡ Ok m) (b : ℕ) (is_old : ℕ → Bool) (ready : IsReady blocks (is_live (blocks 1)) b is_old) (next_block : List ℕ)
    (formed : map_fault next_block ≡ None)
    (says : (c : ℕ) → c < 256 → is_live next_block c ≡ live_after (is_live (blocks 1)) b is_old c) (past : (c : ℕ) → is_live next_block c ≡ true → c < 256) where
  abbrev live : Live
  live = is_live (blocks 1)

  abbrev next : Live
  next = is_live next_block

  abbrev other : Blocks
  other = with_block blocks 1 next_block

  held : HoldMap blocks m
  held = map_holds blocks m is

  same : (c : ℕ) → 2 ≤ c → other c ≡ blocks c
  same c ge = written_off blocks 1 c next_block (λ one. absurd (omega (arith, one, ge)))

  split : (x y z : Bool) → x ≡ false → (x || (y && not z)) ≡ true → (y ≡ true) × (z ≡ false)
  split x y z nay aye =
      let both = and_parts y (not z) (sym (ap (λ (w : Bool). w || (y && not z)) nay) ∙ aye) in
      (both.0, not_false z both.1)

  back : (c : ℕ) → c ≢ b → next c ≡ true → (live c ≡ true) × (is_old c ≡ false)
  back c ne aye = split (c == b) (live c) (is_old c) (differ c b ne) (sym (says c (past c aye)) ∙ aye)

  forth : (c : ℕ) → c < 256 → live c ≡ true → is_old c ≡ false → next c ≡ true
  forth c lt aye fresh = says c lt ∙ or_right (c == b) (live c && not (is_old c)) (and_from (live c) (not (is_old c)) aye (turned (is_old c) fresh))

  here : next b ≡ true
  here = says b ready.free.high ∙ or_left (b == b) (live b && not (is_old b)) (eq-eqb b b refl)

  -- the old entry has gone
  gone : (c : ℕ) → c ≢ b → is_old c ≡ true → next c ≡ false
  gone c ne old = false_or (next c) (λ aye. true≢false (sym old ∙ (back c ne aye).1))

  dead : (c : ℕ) → c ≢ b → live c ≡ false → next c ≡ false
  dead c ne nay = false_or (next c) (λ aye. true≢false (sym ((back c ne aye).0) ∙ nay))

  -- entry b is one
  new_entry : IsEntry other next b
  new_entry = record {
    single = λ c ge lt aye.
        let ne : c ≢ b = (λ e. absurd (omega (arith, e, lt))) in
        let was = back c ne aye in
        ap (λ (x : List ℕ). name_eq (name_in x) (name_in (other b))) (same c ge)
        ∙ ap (λ (x : List ℕ). name_eq (name_in (blocks c)) (name_in x)) (same b ready.free.low)
        ∙ ready.alone c ge (past c aye) was.0 was.1;
    front = ap front_fault (same b ready.free.low) ∙ ready.front;
    numbers = λ i lt. good i (subst (λ (x : List ℕ). i < data_blocks (size_in x)) (same b ready.free.low) lt);
    rest = ap rest_fault (same b ready.free.low) ∙ ready.rest;
  }
    where
      good : (i : ℕ) → i < data_blocks (size_in (blocks b)) → IsGood other next b i
      good i lt =
          let free = ready.numbers i lt in
          let own : other b ≡ blocks b = same b ready.free.low in
          record {
            low = ap (λ (x : List ℕ). nat_le 2 (number_at x i)) own ∙ le-leb 2 (number_at (blocks b) i) free.0.low;
            dead = ap (λ (x : List ℕ). next (number_at x i)) own ∙ dead (number_at (blocks b) i) free.1 free.0.dead;
            distinct = λ j below. ap (λ (x : List ℕ). number_at x j == number_at x i) own ∙ ready.distinct i j lt below;
            apart = λ c ge below aye.
                let ne : c ≢ b = (λ e. absurd (omega (arith, e, below))) in
                ap (λ (x : List ℕ). has_number (other c) (number_at x i)) own
                ∙ ap (λ (x : List ℕ). has_number x (number_at (blocks b) i)) (same c ge)
                ∙ free.0.unnamed c ge (past c aye) ((back c ne aye).0);
          }

  -- an entry's number is none of the new one's
  strange : (c : ℕ) → 2 ≤ c → c < 256 → live c ≡ true → (i : ℕ) → i < data_blocks (size_in (blocks c)) → next b ≡ true → has_number (blocks b) (number_at (blocks c) i) ≡ false
  strange c ge lt aye i within stands = no_number (blocks b) (number_at (blocks c) i) (λ j inside.
      differ (number_at (blocks b) j) (number_at (blocks c) i) (λ e.
      let none = number_none (blocks c) (number_at (blocks b) j) (((ready.numbers j inside).0).unnamed c ge lt aye) i within in
      not_same (number_at (blocks c) i) (number_at (blocks b) j) none (sym e)))

  entries : (c : ℕ) → 2 ≤ c → c < 256 → next c ≡ true → IsEntry other next c
  entries c ge lt aye = elim (cases_Bool (c == b)) [
    | inl is_b ↦ subst (IsEntry other next) (sym (eqb-true c b is_b)) new_entry
    | inr nay ↦ entry_stays blocks other live next is_old same held.entries b back
        (λ k low high on fresh stands. name_turned (name_in (blocks k)) (name_in (blocks b)) (ready.alone k low high on fresh))
        (λ k low high on stands. ready.free.unnamed k low high on) strange c ge lt (not_same c b nay) aye
  ]

  one : other 1 ≡ next_block
  one = refl

  -- OBJECTS
  abbrev objects : CardMap
  objects = objects_of other next

  object_b : object_in other b ≡ object_in blocks b
  object_b = same_object blocks other b (same b ready.free.low) (λ d has. same d (elim (cases_lt d 2) [
    | inr low ↦ low
    | inl small ↦ absurd (true≢false (sym has ∙ no_number (blocks b) d (λ i within. differ (number_at (blocks b) i) d (λ e. absurd (omega (arith, e, small, ((ready.numbers i within).0).low))))))
  ]))

  -- under another name
  elsewhere : (name : ObjectName) → name_eq (name_in (blocks b)) name ≡ false → (a n : ℕ) → 2 ≤ a → a + n ≤ 256
      → bytes_at (objects_from other next a n) name ≡ bytes_at (objects_from blocks live a n) name
  unfolding objects_from
  elsewhere name unlike a zero low high = refl
  elsewhere name unlike a (suc n) low high = by_both (next a) refl (live a) refl (elsewhere name unlike (a + 1) n (omega (arith, low)) (omega (arith, high)))
    where
      by_both : (x : Bool) → next a ≡ x → (y : Bool) → live a ≡ y → bytes_at (objects_from other next (a + 1) n) name ≡ bytes_at (objects_from blocks live (a + 1) n) name
          → bytes_at (cond x (object_in other a ∷ objects_from other next (a + 1) n) (objects_from other next (a + 1) n)) name
          ≡ bytes_at (cond y (object_in blocks a ∷ objects_from blocks live (a + 1) n) (objects_from blocks live (a + 1) n)) name
      by_both false nay false off rest = rest
      by_both true aye true on rest =
          ap (λ (o : CardObject). cond (name_eq o.name name) (Some o.bytes) (bytes_at (objects_from other next (a + 1) n) name)) (object_stays blocks other live next is_old same held.entries a low (omega (arith, high)) on)
          ∙ ap (λ (r : Option (List ℕ)). cond (name_eq (name_in (blocks a)) name) (Some (object_in blocks a).bytes) r) rest
      by_both true aye false off rest =
          let is_b : a ≡ b = elim (cases_Bool (a == b)) [
            | inl e ↦ eqb-true a b e
            | inr nay ↦ absurd (true≢false (sym aye ∙ dead a (not_same a b nay) off))
          ] in
          cond-false (name_eq (name_in (other a)) name) (Some (object_in other a).bytes) (bytes_at (objects_from other next (a + 1) n) name)
          (ap (λ (x : List ℕ). name_eq (name_in x) name) (same a low) ∙ ap (λ (k : ℕ). name_eq (name_in (blocks k)) name) is_b ∙ unlike) ∙ rest
      by_both false nay true on rest =
          let old : is_old a ≡ true = elim (cases_Bool (is_old a)) [
            | inl e ↦ e
            | inr fresh ↦ absurd (true≢false (sym (forth a (omega (arith, high)) on fresh) ∙ nay))
          ] in
          let named : name_in (blocks a) ≡ name_in (blocks b) = same_name (name_in (blocks a)) (name_in (blocks b)) (ready.old a low (omega (arith, high)) on old) in
          rest ∙ sym (cond-false (name_eq (name_in (blocks a)) name) (Some (object_in blocks a).bytes) (bytes_at (objects_from blocks live (a + 1) n) name)
          (ap (λ (x : ObjectName). name_eq x name) named ∙ unlike))

  -- under its own
  found : (a n : ℕ) → 2 ≤ a → a ≤ b → b < a + n → a + n ≤ 256 → bytes_at (objects_from other next a n) (name_in (blocks b)) ≡ Some (object_in blocks b).bytes
  unfolding objects_from
  found a zero low le lt high = absurd (omega (arith, le, lt))
  found a (suc n) low le lt high = elim (later a b le) [
    | inl is_b ↦
        ap (λ (x : Bool). bytes_at (cond x (object_in other a ∷ objects_from other next (a + 1) n) (objects_from other next (a + 1) n)) (name_in (blocks b))) (ap next is_b ∙ here)
        ∙ ap (λ (o : CardObject). cond (name_eq o.name (name_in (blocks b))) (Some o.bytes) (bytes_at (objects_from other next (a + 1) n) (name_in (blocks b)))) (ap (object_in other) is_b ∙ object_b)
        ∙ cond-true (name_eq (name_in (blocks b)) (name_in (blocks b))) (Some (object_in blocks b).bytes) (bytes_at (objects_from other next (a + 1) n) (name_in (blocks b))) (self_name (name_in (blocks b)))
    | inr more ↦ by_next (next a) refl (found (a + 1) n (omega (arith, low)) more (omega (arith, lt)) (omega (arith, high)))
  ]
    where
      by_next : (x : Bool) → next a ≡ x → bytes_at (objects_from other next (a + 1) n) (name_in (blocks b)) ≡ Some (object_in blocks b).bytes
          → bytes_at (cond x (object_in other a ∷ objects_from other next (a + 1) n) (objects_from other next (a + 1) n)) (name_in (blocks b)) ≡ Some (object_in blocks b).bytes
      by_next false nay rest = rest
      by_next true aye rest = elim (later a b le) [
        | inl is_b ↦ ap (λ (o : CardObject). cond (name_eq o.name (name_in (blocks b))) (Some o.bytes) (bytes_at (objects_from other next (a + 1) n) (name_in (blocks b)))) (ap (object_in other) is_b ∙ object_b)
            ∙ cond-true (name_eq (name_in (blocks b)) (name_in (blocks b))) (Some (object_in blocks b).bytes) (bytes_at (objects_from other next (a + 1) n) (name_in (blocks b))) (self_name (name_in (blocks b)))
        | inr more ↦
            let ne : a ≢ b = (λ e. absurd (omega (arith, e, more))) in
            let was = back a ne aye in
            cond-false (name_eq (name_in (other a)) (name_in (blocks b))) (Some (object_in other a).bytes) (bytes_at (objects_from other next (a + 1) n) (name_in (blocks b)))
            (ap (λ (x : List ℕ). name_eq (name_in x) (name_in (blocks b))) (same a low) ∙ ready.alone a low (omega (arith, high)) was.0 was.1) ∙ rest
      ]

  under : (name : ObjectName) → bytes_at objects name ≡ cond (name_eq (name_in (blocks b)) name) (Some (object_in blocks b).bytes) (bytes_at m name)
  under name = by_name (name_eq (name_in (blocks b)) name) refl
    where
      by_name : (x : Bool) → name_eq (name_in (blocks b)) name ≡ x → bytes_at objects name ≡ cond x (Some (object_in blocks b).bytes) (bytes_at m name)
      by_name true aye = ap (bytes_at objects) (sym (same_name (name_in (blocks b)) name aye)) ∙ found 2 254 (omega arith) ready.free.low ready.free.high (omega arith)
      by_name false nay = elsewhere name nay 2 254 (omega arith) (omega arith) ∙ ap (λ (x : CardMap). bytes_at x name) held.is

  pub flipped : (n : CardMap) × (map_of_blocks (with_block blocks 1 next_block) ≡ Ok n)
      × ((name : ObjectName) → bytes_at n name ≡ cond (name_eq (name_in (blocks b)) name) (Some (object_in blocks b).bytes) (bytes_at m name))
  flipped = (objects, holds_map other objects (record { map = formed; entries = entries; is = refl }), under)

pub flips : MapWritesFlip
flips blocks m is b is_old ready =
    let live : Live = is_live (blocks 1) in
    let held = map_holds blocks m is in
    flipped blocks m is b is_old ready (map_block (live_after (is_live (blocks 1)) b is_old))
    (map_formed (live_after (is_live (blocks 1)) b is_old) (dead_after 0 (λ e. absurd (omega (arith, e, ready.free.low))) (first_dead (blocks 1) held.map)) (dead_after 1 (λ e. absurd (omega (arith, e, ready.free.low))) (second_dead (blocks 1) held.map)))
    (map_says (live_after (is_live (blocks 1)) b is_old))
    (live_low (map_block (live_after (is_live (blocks 1)) b is_old)))
  where
    dead_after : (c : ℕ) → c ≢ b → is_live (blocks 1) c ≡ false → live_after (is_live (blocks 1)) b is_old c ≡ false
    dead_after c ne dead = or_from (c == b) (is_live (blocks 1) c && not (is_old c)) (differ c b ne) (and_left (is_live (blocks 1) c) (not (is_old c)) dead)

-- AN ENTRY IS TAKEN AWAY
module _ (blocks : Blocks) (m : CardMap) (is : map_of_blocks blocks ≡ Ok m) (name : ObjectName) (is_old : ℕ → Bool)
    (named : (c : ℕ) → 2 ≤ c → c < 256 → is_live (blocks 1) c ≡ true → is_old c ≡ name_eq (name_in (blocks c)) name) where
  abbrev stood : Live
  stood = is_live (blocks 1)

  abbrev left_block : List ℕ
  left_block = map_block (live_without (is_live (blocks 1)) is_old)

  abbrev left : Live
  left = is_live left_block

  abbrev cleared : Blocks
  cleared = with_block blocks 1 left_block

  had : HoldMap blocks m
  had = map_holds blocks m is

  stays : (c : ℕ) → 2 ≤ c → cleared c ≡ blocks c
  stays c ge = written_off blocks 1 c left_block (λ one. absurd (omega (arith, one, ge)))

  left_is : (c : ℕ) → c < 256 → left c ≡ (stood c && not (is_old c))
  left_is c lt = map_says (live_without (is_live (blocks 1)) is_old) c lt

  was : (c : ℕ) → left c ≡ true → (stood c ≡ true) × (is_old c ≡ false)
  was c there =
      let both = and_parts (stood c) (not (is_old c)) (sym (left_is c (live_low left_block c there)) ∙ there) in
      (both.0, not_false (is_old c) both.1)

  still : (c : ℕ) → c < 256 → stood c ≡ true → is_old c ≡ false → left c ≡ true
  still c lt on fresh = left_is c lt ∙ and_from (stood c) (not (is_old c)) on (turned (is_old c) fresh)

  none_at_zero : left 0 ≡ true → ⊥
  none_at_zero there = true≢false (sym ((was 0 there).0) ∙ first_dead (blocks 1) had.map)

  left_entries : (c : ℕ) → 2 ≤ c → c < 256 → left c ≡ true → IsEntry cleared left c
  left_entries c ge lt there =
      entry_stays blocks cleared stood left is_old stays had.entries 0 (λ k ne on. was k on)
      (λ k low high on fresh stands. absurd (none_at_zero stands)) (λ k low high on stands. absurd (none_at_zero stands)) (λ k low high on i within stands. absurd (none_at_zero stands))
      c ge lt (λ zeroth. absurd (omega (arith, zeroth, ge))) there

  same_elsewhere : (q : ObjectName) → name_eq name q ≡ false → (a n : ℕ) → 2 ≤ a → a + n ≤ 256 → bytes_at (objects_from cleared left a n) q ≡ bytes_at (objects_from blocks stood a n) q
  unfolding objects_from
  same_elsewhere q unlike a zero low high = refl
  same_elsewhere q unlike a (suc n) low high = by_both (left a) refl (stood a) refl (same_elsewhere q unlike (a + 1) n (omega (arith, low)) (omega (arith, high)))
    where
      by_both : (x : Bool) → left a ≡ x → (y : Bool) → stood a ≡ y → bytes_at (objects_from cleared left (a + 1) n) q ≡ bytes_at (objects_from blocks stood (a + 1) n) q
          → bytes_at (cond x (object_in cleared a ∷ objects_from cleared left (a + 1) n) (objects_from cleared left (a + 1) n)) q
          ≡ bytes_at (cond y (object_in blocks a ∷ objects_from blocks stood (a + 1) n) (objects_from blocks stood (a + 1) n)) q
      by_both false nay false off rest = rest
      by_both true aye true on rest =
          ap (λ (o : CardObject). cond (name_eq o.name q) (Some o.bytes) (bytes_at (objects_from cleared left (a + 1) n) q)) (object_stays blocks cleared stood left is_old stays had.entries a low (omega (arith, high)) on)
          ∙ ap (λ (r : Option (List ℕ)). cond (name_eq (name_in (blocks a)) q) (Some (object_in blocks a).bytes) r) rest
      by_both true aye false off rest = absurd (true≢false (sym ((was a aye).0) ∙ off))
      by_both false nay true on rest =
          let old : is_old a ≡ true = true_or (is_old a) (λ fresh. true≢false (sym (still a (omega (arith, high)) on fresh) ∙ nay)) in
          let alike : name_in (blocks a) ≡ name = same_name (name_in (blocks a)) name (sym (named a low (omega (arith, high)) on) ∙ old) in
          rest ∙ sym (cond-false (name_eq (name_in (blocks a)) q) (Some (object_in blocks a).bytes) (bytes_at (objects_from blocks stood (a + 1) n) q) (ap (λ (x : ObjectName). name_eq x q) alike ∙ unlike))

  absent : (a n : ℕ) → 2 ≤ a → a + n ≤ 256 → bytes_at (objects_from cleared left a n) name ≡ None
  unfolding objects_from
  absent a zero low high = refl
  absent a (suc n) low high = by_left (left a) refl (absent (a + 1) n (omega (arith, low)) (omega (arith, high)))
    where
      by_left : (x : Bool) → left a ≡ x → bytes_at (objects_from cleared left (a + 1) n) name ≡ None
          → bytes_at (cond x (object_in cleared a ∷ objects_from cleared left (a + 1) n) (objects_from cleared left (a + 1) n)) name ≡ None
      by_left false nay rest = rest
      by_left true aye rest =
          cond-false (name_eq (name_in (cleared a)) name) (Some (object_in cleared a).bytes) (bytes_at (objects_from cleared left (a + 1) n) name)
          (ap (λ (x : List ℕ). name_eq (name_in x) name) (stays a low) ∙ sym (named a low (omega (arith, high)) ((was a aye).0)) ∙ (was a aye).1)
          ∙ rest

  under_clear : (q : ObjectName) → bytes_at (objects_of cleared left) q ≡ cond (name_eq name q) None (bytes_at m q)
  under_clear q = by_name (name_eq name q) refl
    where
      by_name : (x : Bool) → name_eq name q ≡ x → bytes_at (objects_of cleared left) q ≡ cond x None (bytes_at m q)
      by_name true aye = ap (bytes_at (objects_of cleared left)) (sym (same_name name q aye)) ∙ absent 2 254 (omega arith) (omega arith)
      by_name false nay = same_elsewhere q nay 2 254 (omega arith) (omega arith) ∙ ap (λ (x : CardMap). bytes_at x q) had.is

  dead_left : (c : ℕ) → stood c ≡ false → live_without (is_live (blocks 1)) is_old c ≡ false
  dead_left c dead = and_left (stood c) (not (is_old c)) dead

  pub taken : (n : CardMap) × (map_of_blocks (with_block blocks 1 (map_block (live_without (is_live (blocks 1)) is_old))) ≡ Ok n)
      × ((other : ObjectName) → bytes_at n other ≡ cond (name_eq name other) None (bytes_at m other))
  taken = (
    objects_of cleared left,
    holds_map cleared (objects_of cleared left) (record {
      map = map_formed (live_without (is_live (blocks 1)) is_old) (dead_left 0 (first_dead (blocks 1) had.map)) (dead_left 1 (second_dead (blocks 1) had.map));
      entries = left_entries;
      is = refl;
    }),
    under_clear,
  )

pub clears : MapWritesClear
clears blocks m is name is_old named = taken blocks m is name is_old named
