-- What the writes of a put leave of a card, one after another.
use Rattle.std.proofs.Common.{◌≡◌, ◌≢◌, ◌⊎◌, inl, inr, ℕ, suc, ◌+◌, ◌-◌, ◌*◌, ◌<◌, ◌≤◌, ◌==◌, ◌&&◌, ◌||◌, not, Bool, true, false, cond, List, [], ◌∷◌, ◌++◌, length, map, take, drop, get_or, Option, Some, None, refl, sym, ap, ◌∙◌, subst, true≢false, arith}
use Rattle.std.specs.Prelude.{is_some, nat_lt, position, slice_set}
use Rattle.std.proofs.lemmas.Bool.{and_from, and_parts, cases_Bool, cases_lt, cond-true, cond-false, eq-eqb, eqb-true, lt-ltb, ltb-true, or_left}
use Rattle.std.proofs.lemmas.List.{drop-drop, get_or-set_other, get_or-set_same, get_or-take, length-set, length-take-le}
use Rattle.store_model.specs.declared.name.ObjectName.{ObjectName}
use Rattle.store_model.specs.Name.{name_eq}
use Rattle.rpmb_card.specs.Card.{CardState}
use Rattle.rpmb_card.specs.Protocol.{done_result}
use Rattle.rpmb_host.specs.Honest.{write_end, written_card}
use Rattle.card_maps.specs.declared.change.TableChange.{TableChange}
use Rattle.card_maps.specs.declared.change.TableChange.TheVariants.{Put}
use Rattle.card_maps.specs.Form.{data_blocks, front_fault, is_live, name_in, number_at, numbers_in, rest_fault, size_in}
use Rattle.card_maps.specs.CardMaps.{Blocks, CardMap, blocks_of, bytes_at, joined, map_of_blocks, object_in}
use Rattle.card_maps.specs.CardWrites.{live_in}
use Rattle.card_maps.specs.Plans.{CardWrite, filled, write_of, written_upto}
use Rattle.card_maps.specs.Puts.{IsFree, IsReady, entry_block, live_after, map_block, with_block}
use Rattle.card_maps.specs.Steps.{HasMap, HasPut, PutRuns}
use Rattle.card_maps.specs.TableStates.{TableState}
use Rattle.card_maps.specs.Tables.{IsChangedTable, IsTableOf, has_name, is_at, live_changed, live_of, unused, uses, without}
use Rattle.card_maps.proofs.Bits.{live_low, map_block_alike, map_says}
use Rattle.card_maps.proofs.Changes.{gone_of, gone_old, left_of, old_gone, without_at, without_long, without_used}
use Rattle.card_maps.proofs.CardWrites.{done_blocks}
use Rattle.card_maps.proofs.Chosen.{IsChosen, chosen}
use Rattle.card_maps.proofs.Chunks.{chunked, chunks}
use Rattle.card_maps.proofs.Codec.{front_back, name_back, number_back, numbers_back, rest_back, size_back}
use Rattle.card_maps.proofs.Finds.{found_is, found_live, held, live_up}
use Rattle.card_maps.proofs.Flips.{flips}
use Rattle.card_maps.proofs.Kept.{kept_table}
use Rattle.card_maps.proofs.Lists.{written_at, written_off}
use Rattle.card_maps.proofs.Prefixes.{IsAfter, after, counter_up, runs_on, runs_upto, write_done}
use Rattle.card_maps.proofs.Ranges.{differ, false_or, later, not_false, not_same, turned}
use Rattle.card_maps.proofs.Users.{IsUser, unused_free, used_after}

not_less : (a b : ℕ) → b ≤ a → nat_lt a b ≡ false
not_less a b ge = false_or (nat_lt a b) (λ aye. absurd (omega (arith, ge, ltb-true a b aye)))

-- the blocks of the data, one behind another
joined_chunks : (blocks : Blocks) (numbers bytes : List ℕ) → ((i : ℕ) → i < length numbers → blocks (get_or numbers i 0) ≡ filled (drop (256 * i) bytes))
    → joined (map blocks numbers) ≡ chunks (length numbers) bytes
joined_chunks blocks [] bytes each = refl
joined_chunks blocks (x ∷ numbers) bytes each =
    let here : blocks x ≡ filled bytes = each 0 (omega arith) in
    let rest : joined (map blocks numbers) ≡ chunks (length numbers) (drop 256 bytes) =
    joined_chunks blocks numbers (drop 256 bytes) (λ i lt.
    each (suc i) (omega (arith, lt))
    ∙ ap (λ (k : ℕ). filled (drop k bytes)) (let e : 256 * suc i ≡ 256 + 256 * i = omega arith in e)
    ∙ ap filled (sym (drop-drop (256 * i) 256 bytes))) in
    λ i. here i ++ rest i

-- whether the table has an entry is whether it is live
some_is : (b : Bool) (x : List ℕ) → is_some (cond b (Some x) None) ≡ b
some_is true x = refl
some_is false x = refl

module _ (t : TableState) (card : CardState) (m : CardMap) (table : IsTableOf t card m) (long : length card.blocks ≡ 256) (name : ObjectName) (bytes : List ℕ)
    (app : length name.app ≡ 16) (some : 1 ≤ length name.id) (short : length name.id ≤ 64) (small : length bytes ≤ 16384)
    (enough : data_blocks (length bytes) + 1 ≤ length (unused t.used)) (room : card.counter + (data_blocks (length bytes) + 2) ≤ 4294967295) where
  abbrev n : ℕ
  n = data_blocks (length bytes)

  abbrev U : List ℕ
  U = unused t.used

  abbrev numbers : List ℕ
  numbers = take (data_blocks (length bytes)) (unused t.used)

  abbrev at : ℕ
  at = get_or (unused t.used) (data_blocks (length bytes)) 0

  abbrev pub put_entry : List ℕ
  put_entry = entry_block name (length bytes) (take (data_blocks (length bytes)) (unused t.used))

  abbrev old : Option ℕ
  old = position (has_name name) t.entries

  abbrev pub put_change : TableChange
  put_change = Put at put_entry old

  abbrev pub put_map : List ℕ
  put_map = map_block (live_changed (live_of t) put_change)

  abbrev pub put_write : ℕ → CardWrite
  put_write = write_of put_change put_map bytes

  few : length numbers ≡ n
  few = length-take-le n U (omega (arith, enough))

  size_is : size_in put_entry ≡ length bytes
  size_is = size_back name (length bytes) numbers app short small few

  pub count_is : data_blocks (size_in put_entry) ≡ n
  count_is = ap data_blocks size_is

  number_is : (i : ℕ) → i < n → number_at put_entry i ≡ get_or U i 0
  number_is i lt = number_back name (length bytes) numbers app short small few i (omega (arith, lt, few)) ∙ get_or-take n U i 0 lt

  data_write : (j : ℕ) → j < n → put_write j ≡ record { address = number_at put_entry j; block = filled (drop (256 * j) bytes) }
  data_write j lt =
      cond-true (nat_lt j (data_blocks (size_in put_entry))) (record { address = number_at put_entry j; block = filled (drop (256 * j) bytes) })
      (cond (j == data_blocks (size_in put_entry)) (record { address = at; block = put_entry }) (record { address = 1; block = put_map })) (lt-ltb j (data_blocks (size_in put_entry)) (omega (arith, lt, count_is)))

  behind_write : (j : ℕ) → n ≤ j → put_write j ≡ cond (j == data_blocks (size_in put_entry)) (record { address = at; block = put_entry }) (record { address = 1; block = put_map })
  behind_write j ge =
      cond-false (nat_lt j (data_blocks (size_in put_entry))) (record { address = number_at put_entry j; block = filled (drop (256 * j) bytes) })
      (cond (j == data_blocks (size_in put_entry)) (record { address = at; block = put_entry }) (record { address = 1; block = put_map })) (not_less j (data_blocks (size_in put_entry)) (omega (arith, ge, count_is)))

  entry_write : put_write n ≡ record { address = at; block = put_entry }
  entry_write =
      behind_write n (omega arith)
      ∙ cond-true (n == data_blocks (size_in put_entry)) (record { address = at; block = put_entry }) (record { address = 1; block = put_map }) (eq-eqb n (data_blocks (size_in put_entry)) (sym count_is))

  map_write : put_write (suc n) ≡ record { address = 1; block = put_map }
  map_write =
      behind_write (suc n) (omega arith)
      ∙ cond-false (suc n == data_blocks (size_in put_entry)) (record { address = at; block = put_entry }) (record { address = 1; block = put_map })
      (differ (suc n) (data_blocks (size_in put_entry)) (λ e. absurd (omega (arith, e, count_is))))

  address_is : (j : ℕ) → j < suc n → (put_write j).address ≡ get_or U j 0
  address_is j lt = elim (cases_lt j n) [
    | inl less ↦ ap (λ (w : CardWrite). w.address) (data_write j less) ∙ number_is j less
    | inr ge ↦
        let same : j ≡ n = omega (arith, ge, lt) in
        ap (λ (k : ℕ). (put_write k).address) same ∙ ap (λ (w : CardWrite). w.address) entry_write ∙ ap (λ (k : ℕ). get_or U k 0) (sym same)
  ]

  picked : IsChosen t.used 256 U
  picked = chosen t.used 256

  free_number : (j : ℕ) → j < suc n → IsFree (blocks_of card) (live_in card) (get_or U j 0)
  free_number j lt =
      let within : j < length U = omega (arith, lt, enough) in
      unused_free (blocks_of card) (live_in card) (get_or U j 0) (picked.below j within) (sym (table.used (get_or U j 0) (picked.below j within)) ∙ picked.free j within)

  free : (j : ℕ) → j < suc n → IsFree (blocks_of card) (live_in card) (put_write j).address
  free j lt = subst (IsFree (blocks_of card) (live_in card)) (sym (address_is j lt)) (free_number j lt)

  apart : (j k : ℕ) → j < suc n → k < j → (put_write k).address ≢ (put_write j).address
  apart j k lt less e =
      absurd (omega (arith, sym (address_is k (omega (arith, less, lt))) ∙ e ∙ address_is j lt, picked.rising j k less (omega (arith, lt, enough))))

  pub put_after : (j : ℕ) → j ≤ suc n → IsAfter card m put_write j
  put_after j le = after card m table.map long put_write (suc n) (omega (arith, room)) free apart j le

  -- the card before the map block is written, and behind
  abbrev C : CardState
  C = written_upto card put_write (suc n)

  abbrev N : CardState
  N = written_upto card put_write (suc (suc n))

  end : IsAfter card m put_write (suc n)
  end = put_after (suc n) (omega arith)

  at_up : IsFree (blocks_of card) (live_in card) at
  at_up = free_number n (omega arith)

  same_live : (c : ℕ) → live_in C c ≡ live_in card c
  same_live c = ap (λ (b : List ℕ). is_live b c) end.first

  stays : (c : ℕ) → live_in card c ≡ true → blocks_of C c ≡ blocks_of card c
  stays c on = end.others c (λ j lt e. true≢false (sym on ∙ ap (live_in card) e ∙ (free j lt).dead))

  block_at : blocks_of C at ≡ put_entry
  block_at =
      ap (λ (w : CardWrite). blocks_of C w.address) (sym entry_write) ∙ end.written n (omega arith) ∙ ap (λ (w : CardWrite). w.block) entry_write

  block_of : (i : ℕ) → i < n → blocks_of C (get_or U i 0) ≡ filled (drop (256 * i) bytes)
  block_of i lt =
      ap (blocks_of C) (sym (address_is i (omega (arith, lt)))) ∙ end.written i (omega (arith, lt)) ∙ ap (λ (w : CardWrite). w.block) (data_write i lt)

  named : name_in (blocks_of C at) ≡ name
  named = ap name_in block_at ∙ name_back name (length bytes) numbers app short small few

  counted : data_blocks (size_in (blocks_of C at)) ≡ n
  counted = ap (λ (b : List ℕ). data_blocks (size_in b)) block_at ∙ count_is

  number_at_is : (i : ℕ) → i < n → number_at (blocks_of C at) i ≡ get_or U i 0
  number_at_is i lt = ap (λ (b : List ℕ). number_at b i) block_at ∙ number_is i lt

  in_U : (i : ℕ) → i < suc n → i < length U
  in_U i lt = omega (arith, lt, enough)

  old_is : (c : ℕ) → 2 ≤ c → c < 256 → live_in C c ≡ true → is_at old c ≡ name_eq (name_in (blocks_of C c)) (name_in (blocks_of C at))
  old_is c ge lt on =
      let on_card : live_in card c ≡ true = sym (same_live c) ∙ on in
      found_is t card m table name c ge lt on_card
      ∙ ap (λ (b : List ℕ). name_eq (name_in b) name) (sym (stays c on_card)) ∙ ap (name_eq (name_in (blocks_of C c))) (sym named)

  ready : IsReady (blocks_of C) (live_in C) at (is_at old)
  ready = record {
    free = end.free at at_up;
    front = ap front_fault block_at ∙ front_back name (length bytes) numbers app short small few some;
    rest = ap rest_fault block_at ∙ rest_back name (length bytes) numbers app short small few;
    numbers = λ i lt.
        let less : i < n = omega (arith, lt, counted) in (
          subst (IsFree (blocks_of C) (live_in C)) (sym (number_at_is i less)) (end.free (get_or U i 0) (free_number i (omega (arith, less)))),
          λ e. absurd (omega (arith, sym (number_at_is i less) ∙ e, picked.rising n i less (in_U n (omega arith)))),
        );
    distinct = λ i j lt less.
        let before : i < n = omega (arith, lt, counted) in
        differ (number_at (blocks_of C at) j) (number_at (blocks_of C at) i) (λ e.
        absurd (omega (arith, sym (number_at_is j (omega (arith, less, before))) ∙ e ∙ number_at_is i before, picked.rising i j less (in_U i (omega (arith, before))))));
    alone = λ c ge lt on other. sym (old_is c ge lt on) ∙ other;
    old = λ c ge lt on is. sym (old_is c ge lt on) ∙ is;
  }

  -- the map block that is written
  map_is : put_map ≡ map_block (live_after (live_in C) at (is_at old))
  map_is = map_block_alike (live_changed (live_of t) put_change) (live_after (live_in C) at (is_at old)) (λ c lt.
      ap (λ (b : Bool). (c == at) || (b && not (is_at old c))) (ap is_some (table.entries c lt) ∙ some_is (live_in card c) (blocks_of card c) ∙ sym (same_live c)))

  unspent : C.counter ≢ 4294967295
  unspent e = absurd (omega (arith, e, end.counter, room))

  N_is : N ≡ written_card C 1 C.counter put_map
  N_is = ap (λ (w : CardWrite). written_card C w.address C.counter w.block) map_write

  N_blocks : blocks_of N ≡ with_block (blocks_of C) 1 put_map
  N_blocks =
      ap blocks_of N_is
      ∙ done_blocks C end.long 1 C.counter put_map (omega arith) (eq-eqb (write_end C 1 C.counter) done_result (write_done C 1 (omega arith) unspent))

  bytes_are : (object_in (blocks_of C) at).bytes ≡ bytes
  bytes_are =
      let own : numbers_in (blocks_of C at) ≡ numbers = ap numbers_in block_at ∙ numbers_back name (length bytes) numbers app short small few in
      let size : size_in (blocks_of C at) ≡ length bytes = ap size_in block_at ∙ size_is in
      let texts : joined (map (blocks_of C) numbers) ≡ chunks (length numbers) bytes =
      joined_chunks (blocks_of C) numbers bytes (λ i lt. ap (blocks_of C) (get_or-take n U i 0 (omega (arith, lt, few))) ∙ block_of i (omega (arith, lt, few))) in
      (λ i. take (size i) (joined (map (blocks_of C) (own i))))
      ∙ ap (take (length bytes)) texts ∙ ap (λ (k : ℕ). take (length bytes) (chunks k bytes)) few
      ∙ chunked n bytes (omega arith)

  pub put_done : HasPut m name bytes N
  put_done =
      let flipped = flips (blocks_of C) m end.map at (is_at old) ready in
      record {
        objects = flipped.0;
        is = ap map_of_blocks N_blocks ∙ ap (λ (b : List ℕ). map_of_blocks (with_block (blocks_of C) 1 b)) map_is ∙ flipped.1;
        each = λ other. flipped.2 other ∙ (λ i. cond (name_eq (named i) other) (Some (bytes_are i)) (bytes_at m other));
      }

  -- THE TABLE BEHIND IT
  live_N : (c : ℕ) → c < 256 → live_in N c ≡ live_after (live_in card) at (is_at old) c
  live_N c lt =
      ap (λ (b : Blocks). is_live (b 1) c) N_blocks ∙ map_says (live_changed (live_of t) put_change) c lt
      ∙ ap (λ (b : Bool). (c == at) || (b && not (is_at old c))) (ap is_some (table.entries c lt) ∙ some_is (live_in card c) (blocks_of card c))

  block_N : (c : ℕ) → 2 ≤ c → blocks_of N c ≡ blocks_of C c
  block_N c ge = ap (λ (b : Blocks). b c) N_blocks ∙ written_off (blocks_of C) 1 c put_map (λ e. absurd (omega (arith, e, ge)))

  live_at : live_in N at ≡ true
  live_at = live_N at at_up.high ∙ or_left (at == at) (live_in card at && not (is_at old at)) (eq-eqb at at refl)

  -- beside the new entry
  live_beside : (c : ℕ) → c < 256 → (c == at) ≡ false → live_in N c ≡ (live_in card c && not (is_at old c))
  live_beside c lt other = live_N c lt ∙ ap (λ (b : Bool). b || (live_in card c && not (is_at old c))) other

  kept : (c : ℕ) → live_in card c ≡ true → blocks_of N c ≡ blocks_of card c
  kept c on = block_N c (live_up t card m table c on) ∙ stays c on

  not_at : (c : ℕ) → live_in card c ≡ true → (c == at) ≡ false
  not_at c on = differ c at (λ e. true≢false (sym on ∙ ap (live_in card) e ∙ at_up.dead))

  old_there : (o : ℕ) → old ≡ Some o → (2 ≤ o) × (o < 256) × (live_in card o ≡ true)
  old_there o is = let p = found_live t card m table name o is in (p.0, p.1, p.2)

  module _ (d : ℕ) where
    new_user : uses put_entry at d ≡ true → (c : ℕ) × IsUser (blocks_of N) (live_in N) d c
    new_user is = (
      at,
      record { low = at_up.low; high = at_up.high; on = live_at; with = ap (λ (b : List ℕ). uses b at d) (block_N at at_up.low ∙ block_at) ∙ is },
    )

    user_stays : (c : ℕ) → IsUser (blocks_of card) (live_in card) d c → is_at old c ≡ false → IsUser (blocks_of N) (live_in N) d c
    user_stays c u other = record {
      low = u.low;
      high = u.high;
      on = live_beside c u.high (not_at c u.on) ∙ and_from (live_in card c) (not (is_at old c)) u.on (turned (is_at old c) other);
      with = ap (λ (b : List ℕ). uses b c d) (kept c u.on) ∙ u.with;
    }

    user_was : (c : ℕ) → IsUser (blocks_of N) (live_in N) d c → (uses put_entry at d ≡ true) ⊎ (IsUser (blocks_of card) (live_in card) d c × (is_at old c ≡ false))
    user_was c u = elim (cases_Bool (c == at)) [
      | inl same ↦
          let is : c ≡ at = eqb-true c at same in
          inl (ap (λ (b : List ℕ). uses b at d) (sym (block_N at at_up.low ∙ block_at)) ∙ ap (λ (k : ℕ). uses (blocks_of N k) k d) (sym is) ∙ u.with)
      | inr other ↦
          let both = and_parts (live_in card c) (not (is_at old c)) (sym (live_beside c u.high other) ∙ u.on) in
          inr (
            record { low = u.low; high = u.high; on = both.0; with = ap (λ (b : List ℕ). uses b c d) (sym (kept c both.0)) ∙ u.with },
            not_false (is_at old c) both.1,
          )
    ]

  pub put_table : (u : TableState) → IsChangedTable t put_change u → IsTableOf u N put_done.objects
  put_table u changed = record {
    map = put_done.is;
    long = ap length changed.entries ∙ length-set (without t.entries old) at (Some put_entry) ∙ without_long t.entries old ∙ table.long;
    entries = λ b lt. ap (λ (es : List (Option (List ℕ))). get_or es b None) changed.entries ∙ entry_is b lt;
    used = λ d lt.
        changed.used d lt
        ∙ ap (λ (x : Bool). x || uses put_entry at d) (without_used t old d ∙ ap (λ (x : Bool). x && not (gone_of t old d)) (table.used d lt))
        ∙ used_after (blocks_of card) (live_in card) (held t card m table).entries (blocks_of N) (live_in N) (is_at old) (gone_of t old) (uses put_entry at) d lt
        (gone_old t card m table d old old_there) (old_gone t card m table d old) (new_user d) (user_stays d) (user_was d);
    bytes = λ b i on lt. bytes_of b i on lt;
  }
    where
      entry_is : (b : ℕ) → b < 256 → get_or (slice_set (without t.entries old) at (Some put_entry)) b None ≡ cond (live_in N b) (Some (blocks_of N b)) None
      entry_is b lt = elim (cases_Bool (b == at)) [
        | inl same ↦
            let is : b ≡ at = eqb-true b at same in
            ap (λ (k : ℕ). get_or (slice_set (without t.entries old) at (Some put_entry)) k None) is
            ∙ get_or-set_same (without t.entries old) at (Some put_entry) None (omega (arith, without_long t.entries old, table.long, at_up.high))
            ∙ ap (λ (x : List ℕ). let o : Option (List ℕ) = Some x in o) (sym (block_N at at_up.low ∙ block_at))
            ∙ sym (ap (λ (k : ℕ). cond (live_in N k) (Some (blocks_of N k)) None) is ∙ cond-true (live_in N at) (Some (blocks_of N at)) None live_at)
        | inr other ↦
            get_or-set_other (without t.entries old) at b (Some put_entry) None (not_same b at other)
            ∙ without_at t.entries old b (omega (arith, lt, table.long))
            ∙ ap (λ (x : Option (List ℕ)). cond (is_at old b) None x) (table.entries b lt)
            ∙ left_of (is_at old b) (live_in card b) (blocks_of card b)
            ∙ ap (λ (x : Bool). cond x (Some (blocks_of card b)) None) (sym (live_beside b lt other))
            ∙ same_block b lt other
      ]
        where
          same_block : (b : ℕ) → b < 256 → (b == at) ≡ false → cond (live_in N b) (Some (blocks_of card b)) None ≡ cond (live_in N b) (Some (blocks_of N b)) None
          same_block b lt other = elim (cases_Bool (live_in N b)) [
            | inl on ↦
                let both = and_parts (live_in card b) (not (is_at old b)) (sym (live_beside b lt other) ∙ on) in
                ap (λ (x : List ℕ). cond (live_in N b) (Some x) None) (sym (kept b both.0))
            | inr off ↦ cond-false (live_in N b) (Some (blocks_of card b)) None off ∙ sym (cond-false (live_in N b) (Some (blocks_of N b)) None off)
          ]

      bytes_of : (b i : ℕ) → live_in N b ≡ true → i < data_blocks (size_in (blocks_of N b)) → number_at (blocks_of N b) i < 256
      bytes_of b i on lt = elim (cases_Bool (b == at)) [
        | inl same ↦
            let is : blocks_of N b ≡ put_entry = ap (blocks_of N) (eqb-true b at same) ∙ block_N at at_up.low ∙ block_at in
            let less : i < n = omega (arith, lt, ap (λ (x : List ℕ). data_blocks (size_in x)) is, count_is) in
            omega (arith, ap (λ (x : List ℕ). number_at x i) is, number_is i less, picked.below i (in_U i (omega (arith, less))))
        | inr other ↦
            let both = and_parts (live_in card b) (not (is_at old b)) (sym (live_beside b (live_low (blocks_of N 1) b on) other) ∙ on) in
            let is : blocks_of N b ≡ blocks_of card b = kept b both.0 in
            omega (arith, ap (λ (x : List ℕ). number_at x i) is, table.bytes b i both.0 (omega (arith, lt, ap (λ (x : List ℕ). data_blocks (size_in x)) is)))
      ]

  -- AT EACH WRITE
  holds_upto : (j : ℕ) → j ≤ suc n → HasMap m (written_upto card put_write j) ⊎ HasPut m name bytes (written_upto card put_write j)
  holds_upto j le = inl (put_after j le).map

  off_first : (j : ℕ) → j < suc n → (put_write j).address ≢ 0
  off_first j lt e = absurd (omega (arith, e, (free j lt).low))

  pub put_runs : (j : ℕ) → j ≤ suc (suc n) → PutRuns m name bytes card (written_upto card put_write j)
  put_runs j le = elim (later j (suc (suc n)) le) [
    | inr before ↦ runs_upto (λ c. HasMap m c ⊎ HasPut m name bytes c) card put_write j (λ k less. holds_upto k (omega (arith, less, before))) (λ k less. off_first k (omega (arith, less, before)))
    | inl whole ↦ subst (λ (k : ℕ). PutRuns m name bytes card (written_upto card put_write k)) (sym whole)
        (runs_on (λ c. HasMap m c ⊎ HasPut m name bytes c) card C N (runs_upto (λ c. HasMap m c ⊎ HasPut m name bytes c) card put_write (suc n) holds_upto off_first)
        (record {
          address = (put_write (suc n)).address;
          counter = C.counter;
          block = (put_write (suc n)).block;
          apart = λ e. absurd (omega (arith, e, ap (λ (w : CardWrite). w.address) map_write));
          is = refl;
        }) (inr put_done))
  ]

  pub put_counter : (j : ℕ) → j ≤ suc (suc n) → (written_upto card put_write j).counter ≡ card.counter + j
  put_counter j le = elim (later j (suc (suc n)) le) [
    | inr before ↦ (put_after j (omega (arith, before))).counter
    | inl whole ↦
        ap (λ (k : ℕ). (written_upto card put_write k).counter) whole ∙ ap (λ (c : CardState). c.counter) N_is
        ∙ counter_up C 1 put_map (write_done C 1 (omega arith) unspent) ∙ omega (arith, end.counter, whole)
  ]

  pub put_block : blocks_of N 1 ≡ put_map
  put_block = ap (λ (b : Blocks). b 1) N_blocks ∙ written_at (blocks_of C) 1 put_map

  -- the table stays the card's until the map block is written
  pub table_upto : (j : ℕ) → j ≤ suc n → IsTableOf t (written_upto card put_write j) m
  table_upto j le =
      kept_table t card (written_upto card put_write j) m table (put_after j le).map (λ c. ap (λ (b : List ℕ). is_live b c) (put_after j le).first)
      (λ c on. (put_after j le).others c (λ k lt e. true≢false (sym on ∙ ap (live_in card) e ∙ (free k (omega (arith, lt, le))).dead)))

  -- the new entry's block was no live entry, and is one then
  pub at_dead : (c : ℕ) × (c < 256) × (live_changed (live_of t) put_change c ≡ not (live_of t c))
  at_dead =
      let off : live_of t at ≡ false = ap is_some (table.entries at at_up.high) ∙ some_is (live_in card at) (blocks_of card at) ∙ at_up.dead in
      (at, at_up.high, or_left (at == at) (live_of t at && not (is_at old at)) (eq-eqb at at refl) ∙ sym (ap not off))
