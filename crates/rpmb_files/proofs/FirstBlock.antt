-- The map of a card does not tell of block 0.
use Rattle.std.proofs.Common.{◌≡◌, ◌∙◌, ℕ, zero, suc, ◌+◌, ◌-◌, ◌≤◌, ◌==◌, ◌&&◌, ◌||◌, not, Bool, true, false, cond, [], Option, Some, None, Result, Ok, refl, ap, arith}
use Rattle.std.specs.Prelude.{nat_le, slice_index_or, slice_set}
use Rattle.std.specs.List.{list_any, range_with_len}
use Rattle.std.proofs.lemmas.List.{get_or-set_other}
use Rattle.store_model.specs.Name.{name_eq}
use Rattle.rpmb_card.specs.Protocol.{done_result}
use Rattle.rpmb_host.specs.Honest.{write_end, written_card}
use Rattle.card_maps.specs.Form.{data_blocks, first_wrong, front_fault, is_live, map_fault, name_in, number_at, or_next, rest_fault, size_in}
use Rattle.card_maps.specs.CardMaps.{BadCard, Blocks, CardMap, Live, any_before, bad_at, blocks_of, entry_fault, first_bad, has_number, is_good_number, is_repeated, map_of_blocks, map_or, numbers_fault, objects_of}
use Rattle.card_maps.proofs.Entries.{HoldMap, map_holds}
use Rattle.card_maps.proofs.Lists.{objects_alike, same_object}
use Rattle.card_maps.proofs.Users.{number_up}
use Rattle.rpmb_files.specs.FirstBlock.{FirstBlockWritesKeepMaps, OtherBlocksTellMaps}

any_same : (p q : ℕ → Bool) (a n : ℕ) → ((c : ℕ) → a ≤ c → p c ≡ q c) → list_any p (range_with_len a n) ≡ list_any q (range_with_len a n)
any_same p q a zero each = refl
any_same p q a (suc n) each =
    let here : p a ≡ q a = each a (omega arith) in
    let rest : list_any p (range_with_len (a + 1) n) ≡ list_any q (range_with_len (a + 1) n) = any_same p q (a + 1) n (λ c ge. each c (omega (arith, ge))) in
    λ i. here i || rest i

module _ (blocks other : Blocks) (same : (c : ℕ) → 1 ≤ c → other c ≡ blocks c) (live : Live) where
  before_same : (b : ℕ) (p q : ℕ → Bool) → ((c : ℕ) → 2 ≤ c → p c ≡ q c) → any_before live b p ≡ any_before live b q
  before_same b p q each = any_same (λ c. live c && p c) (λ c. live c && q c) 2 (b - 2) (λ c ge. ap (λ (x : Bool). live c && x) (each c ge))

  module _ (b : ℕ) (up : 1 ≤ b) where
    here : other b ≡ blocks b
    here = same b up

    repeated_same : is_repeated other live b ≡ is_repeated blocks live b
    repeated_same =
        before_same b (λ c. name_eq (name_in (other c)) (name_in (other b))) (λ c. name_eq (name_in (blocks c)) (name_in (blocks b)))
        (λ c ge. (let there : other c ≡ blocks c = same c (omega (arith, ge)) in λ i. name_eq (name_in (there i)) (name_in (here i))))

    number_same : (k : ℕ) → is_good_number other live b k ≡ is_good_number blocks live b k
    number_same k =
        let named : any_before live b (λ c. has_number (other c) (number_at (other b) k)) ≡ any_before live b (λ c. has_number (blocks c) (number_at (blocks b) k)) =
        before_same b (λ c. has_number (other c) (number_at (other b) k)) (λ c. has_number (blocks c) (number_at (blocks b) k))
        (λ c ge. (let there : other c ≡ blocks c = same c (omega (arith, ge)) in λ i. has_number (there i) (number_at (here i) k))) in
        λ i.
        nat_le 2 (number_at (here i) k)
        && (not (live (number_at (here i) k))
        && (not (list_any (λ j. number_at (here i) j == number_at (here i) k) (range_with_len 0 k)) && not (named i)))

    numbers_same : numbers_fault other live b ≡ numbers_fault blocks live b
    numbers_same = λ i. first_wrong (λ at. number_same (at - 84) i) 84 (data_blocks (size_in (here i)))

    entry_same : entry_fault other live b ≡ entry_fault blocks live b
    entry_same = λ i.
        or_next (cond (repeated_same i) (Some 0) None)
        (or_next (front_fault (here i)) (or_next (numbers_same i) (rest_fault (here i))))

  bad_same : (b n : ℕ) → 1 ≤ b → first_bad other live b n ≡ first_bad blocks live b n
  unfolding first_bad
  bad_same b zero up = refl
  bad_same b (suc n) up =
      let entry : entry_fault other live b ≡ entry_fault blocks live b = entry_same b up in
      let rest : first_bad other live (b + 1) n ≡ first_bad blocks live (b + 1) n = bad_same (b + 1) n (omega arith) in
      λ i. bad_at b (cond (live b) (entry i) None) (rest i)

-- where the blocks hold a map, each entry's object is the same
objects_same : (blocks other : Blocks) → ((c : ℕ) → 1 ≤ c → other c ≡ blocks c) → (m : CardMap) → HoldMap blocks m → objects_of other (is_live (blocks 1)) ≡ objects_of blocks (is_live (blocks 1))
objects_same blocks other same m held =
    objects_alike blocks other (is_live (blocks 1)) (is_live (blocks 1)) 2 254 (λ c ge lt. refl)
    (λ c ge lt on.
    same_object blocks other c (same c (omega (arith, ge)))
    (λ d named. (let up : 2 ≤ d = number_up blocks (is_live (blocks 1)) held.entries c d ge (omega (arith, lt)) on named in same d (omega (arith, up)))))

maps_same : (blocks other : Blocks) → ((c : ℕ) → 1 ≤ c → other c ≡ blocks c) → map_of_blocks other ≡ map_of_blocks blocks
maps_same blocks other same =
    let first : other 1 ≡ blocks 1 = same 1 (omega arith) in
    let bad : first_bad other (is_live (blocks 1)) 2 254 ≡ first_bad blocks (is_live (blocks 1)) 2 254 = bad_same blocks other same (is_live (blocks 1)) 2 254 (omega arith) in
    (λ i. map_or (objects_of other (is_live (first i))) (bad_at 1 (map_fault (first i)) (first_bad other (is_live (first i)) 2 254)))
    ∙ (λ i. map_or (objects_of other (is_live (blocks 1))) (bad_at 1 (map_fault (blocks 1)) (bad i)))
    ∙ by_bad (bad_at 1 (map_fault (blocks 1)) (first_bad blocks (is_live (blocks 1)) 2 254)) refl
  where
    by_bad : (o : Option BadCard) → bad_at 1 (map_fault (blocks 1)) (first_bad blocks (is_live (blocks 1)) 2 254) ≡ o
        → map_or (objects_of other (is_live (blocks 1))) o ≡ map_or (objects_of blocks (is_live (blocks 1))) o
    by_bad (Some bad) is = refl
    by_bad None is =
        let held : HoldMap blocks (objects_of blocks (is_live (blocks 1))) =
        map_holds blocks (objects_of blocks (is_live (blocks 1))) (ap (map_or (objects_of blocks (is_live (blocks 1)))) is) in
        ap (λ (m : CardMap). let r : Result CardMap BadCard = Ok m in r) (objects_same blocks other same (objects_of blocks (is_live (blocks 1))) held)

pub other_blocks_tell : OtherBlocksTellMaps
other_blocks_tell old new same = maps_same (blocks_of old) (blocks_of new) same

pub first_block_writes : FirstBlockWritesKeepMaps
first_block_writes card counter block = other_blocks_tell card (written_card card 0 counter block) (λ b up. by_end b up (write_end card 0 counter == done_result))
  where
    by_end : (b : ℕ) → 1 ≤ b → (done : Bool) → slice_index_or (cond done (slice_set card.blocks 0 block) card.blocks) b [] ≡ slice_index_or card.blocks b []
    by_end b up true = get_or-set_other card.blocks 0 b block [] (λ e. absurd (omega (arith, e, up)))
    by_end b up false = refl
