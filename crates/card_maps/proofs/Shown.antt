-- What a table tells of the map of its card: the names, the blocks that are left, and where an object is.
use Rattle.std.proofs.Common.{◌≡◌, ◌≢◌, inl, inr, ℕ, zero, suc, ◌+◌, ◌-◌, ◌*◌, ◌<◌, ◌≤◌, Bool, true, false, cond, List, [], ◌∷◌, length, map, take, drop, get_or, Option, Some, None, refl, sym, ap, ◌∙◌, arith}
use Rattle.std.specs.Prelude.{position}
use Rattle.std.specs.List.{range_with_len}
use Rattle.std.proofs.Math.Seq.{drop-cons}
use Rattle.std.proofs.lemmas.Bool.{cond-true, cond-false}
use Rattle.std.proofs.lemmas.List.{length-take-le}
use Rattle.std.proofs.lemmas.List.FromFn.{get_or-map-range_with_len, length-map-range_with_len}
use Rattle.store_model.specs.declared.name.ObjectName.{ObjectName}
use Rattle.store_model.specs.Name.{name_eq}
use Rattle.rpmb_card.specs.Card.{CardState, IsCard}
use Rattle.card_maps.specs.Form.{data_blocks, name_in, number_at, numbers_in, size_in}
use Rattle.card_maps.specs.CardMaps.{Blocks, CardMap, Live, blocks_free, blocks_of, blocks_taken, bytes_at, joined, object_in, objects_from}
use Rattle.card_maps.specs.CardWrites.{live_in}
use Rattle.card_maps.specs.Names.{names_of}
use Rattle.card_maps.specs.TableStates.{TableState}
use Rattle.card_maps.specs.Tables.{IsTableOf, entry_at, has_name, is_at, is_used, names_in, unused, unused_below}
use Rattle.card_maps.proofs.Counting.{count, count_alike, joined_long, unused_count, used_weight, weight}
use Rattle.card_maps.proofs.Finds.{entry_dead, entry_live, found_is, found_live, held, live_up}
use Rattle.card_maps.proofs.Ranges.{differ, later}

module _ (t : TableState) (card : CardState) (m : CardMap) (table : IsTableOf t card m) (sound : IsCard card) where
  abbrev B : Blocks
  B = blocks_of card

  abbrev L : Live
  L = live_in card

  low_bytes : (c i : ℕ) → 2 ≤ c → c < 256 → L c ≡ true → i < data_blocks (size_in (B c)) → number_at (B c) i < 256
  low_bytes c i ge lt on less = table.bytes c i on less

  whole : (d : ℕ) → d < 256 → length (B d) ≡ 256
  whole d lt = sound.block d lt

  pub object_size : (c : ℕ) → c < 256 → L c ≡ true → length (object_in B c).bytes ≡ size_in (B c)
  object_size c lt on =
      let ge : 2 ≤ c = live_up t card m table c on in
      let many : length (numbers_in (B c)) ≡ data_blocks (size_in (B c)) = length-map-range_with_len (number_at (B c)) 0 (data_blocks (size_in (B c))) in
      let long : length (joined (map B (numbers_in (B c)))) ≡ 256 * length (numbers_in (B c)) =
      joined_long B L (held t card m table).entries low_bytes whole (numbers_in (B c)) (λ i less.
      let within : i < data_blocks (size_in (B c)) = omega (arith, less, many) in
      omega (arith, get_or-map-range_with_len (number_at (B c)) 0 (data_blocks (size_in (B c))) i i 0 within (omega arith), low_bytes c i ge lt on within)) in
      length-take-le (size_in (B c)) (joined (map B (numbers_in (B c)))) (omega (arith, long, many))

  -- THE NAMES
  names_from : (a n : ℕ) → a + n ≡ 256 → names_in (drop a t.entries) ≡ names_of (objects_from B L a n)
  unfolding objects_from
  names_from a zero all = ap names_in (past t.entries a (omega (arith, all, table.long)))
    where
      past : (xs : List (Option (List ℕ))) (k : ℕ) → length xs ≤ k → drop k xs ≡ []
      past [] zero le = refl
      past [] (suc k) le = refl
      past (x ∷ xs) zero le = absurd (omega (arith, le))
      past (x ∷ xs) (suc k) le = past xs k (omega (arith, le))
  names_from a (suc n) all =
      ap names_in (drop-cons t.entries a None (omega (arith, all, table.long)) ∙ ap (λ (k : ℕ). entry_at t a ∷ drop k t.entries) (let e : suc a ≡ a + 1 = omega arith in e))
      ∙ by_live (L a) refl (names_from (a + 1) n (omega (arith, all)))
    where
      by_live : (x : Bool) → L a ≡ x → names_in (drop (a + 1) t.entries) ≡ names_of (objects_from B L (a + 1) n)
          → names_in (entry_at t a ∷ drop (a + 1) t.entries) ≡ names_of (cond x (object_in B a ∷ objects_from B L (a + 1) n) (objects_from B L (a + 1) n))
      by_live true on rest =
          let lt : a < 256 = omega (arith, all) in
          ap (λ (e : Option (List ℕ)). names_in (e ∷ drop (a + 1) t.entries)) (entry_live t card m table a lt on)
          ∙ (let size : size_in (B a) ≡ length (object_in B a).bytes = sym (object_size a lt on) in
          λ i. record { app = (name_in (B a)).app; id = (name_in (B a)).id; size = size i } ∷ rest i)
      by_live false off rest = ap (λ (e : Option (List ℕ)). names_in (e ∷ drop (a + 1) t.entries)) (entry_dead t card m table a (omega (arith, all)) off) ∙ rest

  pub names_are : names_in t.entries ≡ names_of m
  names_are =
      let first : drop 0 t.entries ≡ entry_at t 0 ∷ drop 1 t.entries = drop-cons t.entries 0 None (omega (arith, table.long)) in
      let second : drop 1 t.entries ≡ entry_at t 1 ∷ drop 2 t.entries = drop-cons t.entries 1 None (omega (arith, table.long)) in
      ap names_in first
      ∙ ap (λ (e : Option (List ℕ)). names_in (e ∷ drop 1 t.entries)) (dead_low 0 (omega arith))
      ∙ ap names_in second
      ∙ ap (λ (e : Option (List ℕ)). names_in (e ∷ drop 2 t.entries)) (dead_low 1 (omega arith))
      ∙ names_from 2 254 (omega arith) ∙ ap names_of (held t card m table).is
    where
      dead_low : (c : ℕ) → c < 2 → entry_at t c ≡ None
      dead_low c lt = entry_dead t card m table c (omega (arith, lt)) (off (L c) refl)
        where
          off : (x : Bool) → L c ≡ x → L c ≡ false
          off true on = absurd (omega (arith, live_up t card m table c on, lt))
          off false nay = nay

  -- THE BLOCKS THAT ARE LEFT
  taken_from : (a n : ℕ) → 2 ≤ a → a + n ≤ 256 → blocks_taken (objects_from B L a n) ≡ weight B L (held t card m table).entries low_bytes a n
  unfolding objects_from
  taken_from a zero low high = refl
  taken_from a (suc n) low high = by_live (L a) refl (taken_from (a + 1) n (omega (arith, low)) (omega (arith, high)))
    where
      by_live : (x : Bool) → L a ≡ x → blocks_taken (objects_from B L (a + 1) n) ≡ weight B L (held t card m table).entries low_bytes (a + 1) n
          → blocks_taken (cond x (object_in B a ∷ objects_from B L (a + 1) n) (objects_from B L (a + 1) n))
          ≡ cond x (1 + data_blocks (size_in (B a))) 0 + weight B L (held t card m table).entries low_bytes (a + 1) n
      by_live true on rest = λ i. 1 + data_blocks (object_size a (omega (arith, high)) on i) + rest i
      by_live false off rest = rest ∙ (let w : ℕ = weight B L (held t card m table).entries low_bytes (a + 1) n in let e : w ≡ 0 + w = omega arith in e)

  pub free_is : length (unused t.used) ≡ blocks_free m
  free_is = sum (length (unused_below t.used 256)) (count (λ d. get_or t.used d true) 256) (blocks_taken m) (unused_count t.used 256) (used ∙ weighed ∙ ap (λ (k : ℕ). 2 + k) (sym taken))
    where
      sum : (u c k : ℕ) → u + c ≡ 256 → c ≡ 2 + k → u ≡ 254 - k
      sum u c k all is = omega (arith, all, is)

      from_two : 2 ≤ 2
      from_two = omega arith

      to_last : 2 + 254 ≤ 256
      to_last = omega arith

      used : count (λ d. get_or t.used d true) 256 ≡ count (is_used B L) 256
      used = count_alike (λ d. get_or t.used d true) (is_used B L) 256 (λ d lt. table.used d lt)

      weighed : count (is_used B L) 256 ≡ 2 + weight B L (held t card m table).entries low_bytes 2 254
      weighed = used_weight B L (held t card m table).entries low_bytes

      taken : blocks_taken m ≡ weight B L (held t card m table).entries low_bytes 2 254
      taken = ap blocks_taken (sym (held t card m table).is) ∙ taken_from 2 254 from_two to_last

  -- WHERE AN OBJECT IS
  module _ (name : ObjectName) where
    bytes_from : (o : ℕ) → (2 ≤ o) × (o < 256) × (L o ≡ true) × (name_eq (name_in (B o)) name ≡ true) → ((c : ℕ) → 2 ≤ c → c < 256 → L c ≡ true → c ≢ o → name_eq (name_in (B c)) name ≡ false)
        → (a n : ℕ) → 2 ≤ a → a ≤ o → o < a + n → a + n ≤ 256 → bytes_at (objects_from B L a n) name ≡ Some (object_in B o).bytes
    unfolding objects_from
    bytes_from o there others a zero low le lt high = absurd (omega (arith, le, lt))
    bytes_from o there others a (suc n) low le lt high = elim (later a o le) [
      | inl same ↦
          ap (λ (x : Bool). bytes_at (cond x (object_in B a ∷ objects_from B L (a + 1) n) (objects_from B L (a + 1) n)) name) (ap L same ∙ there.2)
          ∙ cond-true (name_eq (name_in (B a)) name) (Some (object_in B a).bytes) (bytes_at (objects_from B L (a + 1) n) name) (ap (λ (k : ℕ). name_eq (name_in (B k)) name) same ∙ there.3)
          ∙ ap (λ (k : ℕ). let x : Option (List ℕ) = Some (object_in B k).bytes in x) same
      | inr more ↦ by_live (L a) refl (bytes_from o there others (a + 1) n (omega (arith, low)) more (omega (arith, lt)) (omega (arith, high)))
    ]
      where
        by_live : (x : Bool) → L a ≡ x → bytes_at (objects_from B L (a + 1) n) name ≡ Some (object_in B o).bytes
            → bytes_at (cond x (object_in B a ∷ objects_from B L (a + 1) n) (objects_from B L (a + 1) n)) name ≡ Some (object_in B o).bytes
        by_live false off rest = rest
        by_live true on rest = elim (later a o le) [
          | inl same ↦
              cond-true (name_eq (name_in (B a)) name) (Some (object_in B a).bytes) (bytes_at (objects_from B L (a + 1) n) name) (ap (λ (k : ℕ). name_eq (name_in (B k)) name) same ∙ there.3)
              ∙ ap (λ (k : ℕ). let x : Option (List ℕ) = Some (object_in B k).bytes in x) same
          | inr more ↦
              cond-false (name_eq (name_in (B a)) name) (Some (object_in B a).bytes) (bytes_at (objects_from B L (a + 1) n) name)
              (others a low (omega (arith, high)) on (λ e. absurd (omega (arith, e, more)))) ∙ rest
        ]

    none_from : ((c : ℕ) → 2 ≤ c → c < 256 → L c ≡ true → name_eq (name_in (B c)) name ≡ false) → (a n : ℕ) → 2 ≤ a → a + n ≤ 256 → bytes_at (objects_from B L a n) name ≡ None
    unfolding objects_from
    none_from none a zero low high = refl
    none_from none a (suc n) low high = by_live (L a) refl (none_from none (a + 1) n (omega (arith, low)) (omega (arith, high)))
      where
        by_live : (x : Bool) → L a ≡ x → bytes_at (objects_from B L (a + 1) n) name ≡ None
            → bytes_at (cond x (object_in B a ∷ objects_from B L (a + 1) n) (objects_from B L (a + 1) n)) name ≡ None
        by_live false off rest = rest
        by_live true on rest = cond-false (name_eq (name_in (B a)) name) (Some (object_in B a).bytes) (bytes_at (objects_from B L (a + 1) n) name) (none a low (omega (arith, high)) on) ∙ rest

    pub bytes_found : (o : ℕ) → position (has_name name) t.entries ≡ Some o → bytes_at m name ≡ Some (object_in B o).bytes
    bytes_found o is =
        let there = found_live t card m table name o is in
        ap (λ (x : CardMap). bytes_at x name) (sym (held t card m table).is)
        ∙ bytes_from o there (λ c ge lt on ne.
        sym (found_is t card m table name c ge lt on) ∙ ap (λ (p : Option ℕ). is_at p c) is ∙ differ c o ne) 2 254 (omega arith) there.0 (omega (arith, there.1)) (omega arith)

    pub bytes_absent : position (has_name name) t.entries ≡ None → bytes_at m name ≡ None
    bytes_absent is =
        ap (λ (x : CardMap). bytes_at x name) (sym (held t card m table).is)
        ∙ none_from (λ c ge lt on. sym (found_is t card m table name c ge lt on) ∙ ap (λ (p : Option ℕ). is_at p c) is) 2 254 (omega arith) (omega arith)
