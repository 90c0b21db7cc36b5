-- What the write of a removal leaves of a card.
use Rattle.std.proofs.Common.{◌≡◌, ◌≢◌, ◌⊎◌, inl, inr, ℕ, ◌+◌, ◌<◌, ◌≤◌, ◌&&◌, ◌||◌, not, Bool, true, false, cond, List, [], length, get_or, Option, Some, None, refl, sym, ap, ◌∙◌, true≢false, arith}
use Rattle.std.specs.Prelude.{is_some, position}
use Rattle.std.proofs.lemmas.Bool.{and_from, and_parts, cases_Bool, cond-false, eq-eqb}
use Rattle.store_model.specs.declared.name.ObjectName.{ObjectName}
use Rattle.store_model.specs.Name.{name_eq}
use Rattle.rpmb_card.specs.Card.{CardState}
use Rattle.rpmb_card.specs.Protocol.{done_result}
use Rattle.rpmb_host.specs.Honest.{write_end, written_card}
use Rattle.card_maps.specs.declared.change.TableChange.TheVariants.{Remove}
use Rattle.card_maps.specs.Form.{data_blocks, is_live, name_in, number_at, size_in}
use Rattle.card_maps.specs.CardMaps.{Blocks, CardMap, blocks_of, map_of_blocks}
use Rattle.card_maps.specs.CardWrites.{live_in}
use Rattle.card_maps.specs.Puts.{live_without, map_block, with_block}
use Rattle.card_maps.specs.Steps.{HasMap, HasRemoved, RemoveRuns}
use Rattle.card_maps.specs.TableStates.{TableState}
use Rattle.card_maps.specs.Tables.{IsChangedTable, IsTableOf, has_name, is_at, is_used, live_changed, live_of, uses}
use Rattle.card_maps.proofs.Bits.{live_low, map_block_alike, map_says}
use Rattle.card_maps.proofs.CardWrites.{done_blocks}
use Rattle.card_maps.proofs.Changes.{gone_of, gone_old, left_of, old_gone, without_at, without_long, without_used}
use Rattle.card_maps.proofs.Finds.{found_is, found_live, held, live_up}
use Rattle.card_maps.proofs.Flips.{clears}
use Rattle.card_maps.proofs.Lists.{written_at, written_off}
use Rattle.card_maps.proofs.Prefixes.{counter_up, runs_on, write_done}
use Rattle.card_maps.proofs.Ranges.{not_false, turned}
use Rattle.card_maps.proofs.Users.{IsUser, used_after}

some_is : (b : Bool) (x : List ℕ) → is_some (cond b (Some x) None) ≡ b
some_is true x = refl
some_is false x = refl

or_none : (x : Bool) → x ≡ (x || false)
or_none true = refl
or_none false = refl

module _ (t : TableState) (card : CardState) (m : CardMap) (table : IsTableOf t card m) (long : length card.blocks ≡ 256) (name : ObjectName) (at : ℕ)
    (found : position (has_name name) t.entries ≡ Some at) (unspent : card.counter ≢ 4294967295) where
  abbrev old : Option ℕ
  old = Some at

  abbrev pub remove_map : List ℕ
  remove_map = map_block (live_changed (live_of t) (Remove at))

  abbrev N : CardState
  N = written_card card 1 card.counter remove_map

  done : write_end card 1 card.counter ≡ done_result
  done = write_done card 1 (omega arith) unspent

  N_blocks : blocks_of N ≡ with_block (blocks_of card) 1 remove_map
  N_blocks = done_blocks card long 1 card.counter remove_map (omega arith) (eq-eqb (write_end card 1 card.counter) done_result done)

  named : (c : ℕ) → 2 ≤ c → c < 256 → live_in card c ≡ true → is_at old c ≡ name_eq (name_in (blocks_of card c)) name
  named c ge lt on = ap (λ (o : Option ℕ). is_at o c) (sym found) ∙ found_is t card m table name c ge lt on

  map_is : remove_map ≡ map_block (live_without (live_in card) (is_at old))
  map_is = map_block_alike (live_changed (live_of t) (Remove at)) (live_without (live_in card) (is_at old)) (λ c lt.
      ap (λ (b : Bool). b && not (is_at old c)) (ap is_some (table.entries c lt) ∙ some_is (live_in card c) (blocks_of card c)))

  pub remove_done : HasRemoved m name N
  remove_done =
      let taken = clears (blocks_of card) m table.map name (is_at old) named in
      record {
        objects = taken.0;
        is = ap map_of_blocks N_blocks ∙ ap (λ (b : List ℕ). map_of_blocks (with_block (blocks_of card) 1 b)) map_is ∙ taken.1;
        each = taken.2;
      }

  -- THE TABLE BEHIND IT
  live_N : (c : ℕ) → c < 256 → live_in N c ≡ (live_in card c && not (is_at old c))
  live_N c lt =
      ap (λ (b : Blocks). is_live (b 1) c) N_blocks ∙ map_says (live_changed (live_of t) (Remove at)) c lt
      ∙ ap (λ (b : Bool). b && not (is_at old c)) (ap is_some (table.entries c lt) ∙ some_is (live_in card c) (blocks_of card c))

  kept : (c : ℕ) → live_in card c ≡ true → blocks_of N c ≡ blocks_of card c
  kept c on = ap (λ (b : Blocks). b c) N_blocks ∙ written_off (blocks_of card) 1 c remove_map (λ e. absurd (omega (arith, e, live_up t card m table c on)))

  parts_N : (c : ℕ) → live_in N c ≡ true → (live_in card c ≡ true) × (is_at old c ≡ false)
  parts_N c on =
      let both = and_parts (live_in card c) (not (is_at old c)) (sym (live_N c (live_low (blocks_of N 1) c on)) ∙ on) in
      (both.0, not_false (is_at old c) both.1)

  old_there : (o : ℕ) → old ≡ Some o → (2 ≤ o) × (o < 256) × (live_in card o ≡ true)
  old_there o is = let p = found_live t card m table name o (found ∙ is) in (p.0, p.1, p.2)

  module _ (d : ℕ) where
    no_user : false ≡ true → (c : ℕ) × IsUser (blocks_of N) (live_in N) d c
    no_user is = absurd (true≢false (sym is))

    user_stays : (c : ℕ) → IsUser (blocks_of card) (live_in card) d c → is_at old c ≡ false → IsUser (blocks_of N) (live_in N) d c
    user_stays c u other = record {
      low = u.low;
      high = u.high;
      on = live_N c u.high ∙ and_from (live_in card c) (not (is_at old c)) u.on (turned (is_at old c) other);
      with = ap (λ (b : List ℕ). uses b c d) (kept c u.on) ∙ u.with;
    }

    user_was : (c : ℕ) → IsUser (blocks_of N) (live_in N) d c → (false ≡ true) ⊎ (IsUser (blocks_of card) (live_in card) d c × (is_at old c ≡ false))
    user_was c u =
        let both = parts_N c u.on in
        inr (record { low = u.low; high = u.high; on = both.0; with = ap (λ (b : List ℕ). uses b c d) (sym (kept c both.0)) ∙ u.with }, both.1)

  pub remove_table : (u : TableState) → IsChangedTable t (Remove at) u → IsTableOf u N remove_done.objects
  remove_table u changed = record {
    map = remove_done.is;
    long = ap length changed.entries ∙ without_long t.entries old ∙ table.long;
    entries = λ b lt.
        ap (λ (es : List (Option (List ℕ))). get_or es b None) changed.entries
        ∙ without_at t.entries old b (omega (arith, lt, table.long))
        ∙ ap (λ (x : Option (List ℕ)). cond (is_at old b) None x) (table.entries b lt)
        ∙ left_of (is_at old b) (live_in card b) (blocks_of card b)
        ∙ ap (λ (x : Bool). cond x (Some (blocks_of card b)) None) (sym (live_N b lt))
        ∙ same_block b;
    used = λ d lt.
        changed.used d lt ∙ without_used t old d ∙ ap (λ (x : Bool). x && not (gone_of t old d)) (table.used d lt)
        ∙ or_none (is_used (blocks_of card) (live_in card) d && not (gone_of t old d))
        ∙ used_after (blocks_of card) (live_in card) (held t card m table).entries (blocks_of N) (live_in N) (is_at old) (gone_of t old) (λ c. false) d lt
        (gone_old t card m table d old old_there) (old_gone t card m table d old) (no_user d) (user_stays d) (user_was d);
    bytes = λ b i on lt.
        let both = parts_N b on in
        let is : blocks_of N b ≡ blocks_of card b = kept b both.0 in
        omega (arith, ap (λ (x : List ℕ). number_at x i) is, table.bytes b i both.0 (omega (arith, lt, ap (λ (x : List ℕ). data_blocks (size_in x)) is)));
  }
    where
      same_block : (b : ℕ) → cond (live_in N b) (Some (blocks_of card b)) None ≡ cond (live_in N b) (Some (blocks_of N b)) None
      same_block b = elim (cases_Bool (live_in N b)) [
        | inl on ↦ ap (λ (x : List ℕ). cond (live_in N b) (Some x) None) (sym (kept b (parts_N b on).0))
        | inr off ↦ cond-false (live_in N b) (Some (blocks_of card b)) None off ∙ sym (cond-false (live_in N b) (Some (blocks_of N b)) None off)
      ]

  pub remove_runs : RemoveRuns m name card N
  remove_runs =
      runs_on (λ c. HasMap m c ⊎ HasRemoved m name c) card card N (record { between = []; run = (inl table.map, refl) })
      (record { address = 1; counter = card.counter; block = remove_map; apart = λ e. absurd (omega (arith, e)); is = refl }) (inr remove_done)

  pub remove_counter : N.counter ≡ card.counter + 1
  remove_counter = counter_up card 1 remove_map done

  pub remove_block : blocks_of N 1 ≡ remove_map
  remove_block = ap (λ (b : Blocks). b 1) N_blocks ∙ written_at (blocks_of card) 1 remove_map

  -- the entry was live, and is not then
  pub at_live : (c : ℕ) × (c < 256) × (live_changed (live_of t) (Remove at) c ≡ not (live_of t c))
  at_live =
      let there = old_there at refl in
      let on : live_of t at ≡ true = ap is_some (table.entries at there.1) ∙ some_is (live_in card at) (blocks_of card at) ∙ there.2 in (
        at,
        there.1,
        ap (λ (b : Bool). live_of t at && not b) (eq-eqb at at refl) ∙ none_of (live_of t at) ∙ sym (ap not on),
      )
    where
      none_of : (x : Bool) → (x && false) ≡ false
      none_of true = refl
      none_of false = refl
