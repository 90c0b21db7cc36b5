-- A card behind the first writes of a call, which go to free blocks.
use Rattle.std.proofs.Common.{◌≡◌, ◌≢◌, inl, inr, ℕ, zero, suc, ◌+◌, ◌<◌, ◌≤◌, ◌==◌, Bool, true, false, not, cond, if◌then◌else◌, List, [], ◌∷◌, ◌++◌, length, Ok, refl, sym, ap, ◌∙◌, subst, arith}
use Rattle.std.specs.Prelude.{nat_lt, slice_set}
use Rattle.std.proofs.lemmas.Bool.{eq-eqb, ltb-true, ne_eqb}
use Rattle.std.proofs.lemmas.List.{length-set}
use Rattle.rpmb_card.specs.Card.{CardState}
use Rattle.rpmb_card.specs.Protocol.{address_failure, counter_failure, done_result, last_counter, write_failure}
use Rattle.rpmb_host.specs.Honest.{write_end, written_card}
use Rattle.card_maps.specs.CardMaps.{Blocks, CardMap, blocks_of, card_map, map_of_blocks}
use Rattle.card_maps.specs.CardWrites.{live_in}
use Rattle.card_maps.specs.Form.{is_live}
use Rattle.card_maps.specs.Plans.{CardWrite, written_upto}
use Rattle.card_maps.specs.Puts.{IsFree, with_block}
use Rattle.card_maps.specs.Steps.{CardRuns, IsCardRun, IsCardWrite}
use Rattle.card_maps.proofs.CardWrites.{done_blocks}
use Rattle.card_maps.proofs.Lists.{written_at, written_off}
use Rattle.card_maps.proofs.Ranges.{false_or, later}
use Rattle.card_maps.proofs.Writes.{free_keeps, free_stays}

-- a write with the card's counter is done, where this is not spent
pub write_done : (card : CardState) (address : ℕ) → address < 256 → card.counter ≢ last_counter → write_end card address card.counter ≡ done_result
write_done card address lt unspent =
    let other : card.counter == last_counter ≡ false = ne_eqb card.counter last_counter unspent in
    let within : nat_lt 255 address ≡ false = in_card address lt in
    ap (λ (b : Bool). let r : ℕ = if b then write_failure else if nat_lt 255 address then address_failure else if not (card.counter == card.counter) then counter_failure else done_result in r) other
    ∙ ap (λ (b : Bool). let r : ℕ = if b then address_failure else if not (card.counter == card.counter) then counter_failure else done_result in r) within
    ∙ ap (λ (b : Bool). let r : ℕ = if not b then counter_failure else done_result in r) (eq-eqb card.counter card.counter refl)
  where
    in_card : (a : ℕ) → a < 256 → nat_lt 255 a ≡ false
    in_card a small = false_or (nat_lt 255 a) (λ aye. absurd (omega (arith, small, ltb-true 255 a aye)))

-- what a write leaves that is done
module _ (card : CardState) (address : ℕ) (block : List ℕ) (done : write_end card address card.counter ≡ done_result) where
  is_done : (write_end card address card.counter == done_result) ≡ true
  is_done = eq-eqb (write_end card address card.counter) done_result done

  pub counter_up : (written_card card address card.counter block).counter ≡ card.counter + 1
  counter_up = ap (λ (b : Bool). cond b (card.counter + 1) card.counter) is_done

  pub blocks_are : (written_card card address card.counter block).blocks ≡ slice_set card.blocks address block
  blocks_are = ap (λ (b : Bool). cond b (slice_set card.blocks address block) card.blocks) is_done

  pub blocks_long : length card.blocks ≡ 256 → length (written_card card address card.counter block).blocks ≡ 256
  blocks_long long = ap length blocks_are ∙ length-set card.blocks address block ∙ long

-- A card behind the first n writes: its counter rose by n, its map stands, and the free blocks that were written hold what was written.
pub record IsAfter (card : CardState) (m : CardMap) (write : ℕ → CardWrite) (n : ℕ) : Type 0 where
  pub long : length (written_upto card write n).blocks ≡ 256
  pub counter : (written_upto card write n).counter ≡ card.counter + n
  pub keyed : (written_upto card write n).key ≡ card.key
  pub map : card_map (written_upto card write n) ≡ Ok m
  pub first : blocks_of (written_upto card write n) 1 ≡ blocks_of card 1
  pub others : (c : ℕ) → ((j : ℕ) → j < n → c ≢ (write j).address) → blocks_of (written_upto card write n) c ≡ blocks_of card c
  pub written : (j : ℕ) → j < n → blocks_of (written_upto card write n) (write j).address ≡ (write j).block
  pub free : (d : ℕ) → IsFree (blocks_of card) (live_in card) d → IsFree (blocks_of (written_upto card write n)) (live_in (written_upto card write n)) d

module _ (card : CardState) (m : CardMap) (is : card_map card ≡ Ok m) (long : length card.blocks ≡ 256) (write : ℕ → CardWrite) (count : ℕ)
    (room : card.counter + count < 4294967295 + 1) (free : (j : ℕ) → j < count → IsFree (blocks_of card) (live_in card) (write j).address)
    (apart : (j k : ℕ) → j < count → k < j → (write k).address ≢ (write j).address) where
  module _ (n : ℕ) (within : n < count) (a : IsAfter card m write n) where
    abbrev now : CardState
    now = written_upto card write n

    here : IsFree (blocks_of (written_upto card write n)) (live_in (written_upto card write n)) (write n).address
    here = a.free (write n).address (free n within)

    pub done_now : write_end (written_upto card write n) (write n).address (written_upto card write n).counter ≡ done_result
    done_now = write_done (written_upto card write n) (write n).address here.high (λ e. absurd (omega (arith, e, a.counter, within, room)))

    moved : blocks_of (written_upto card write (suc n)) ≡ with_block (blocks_of (written_upto card write n)) (write n).address (write n).block
    moved =
        done_blocks (written_upto card write n) a.long (write n).address (written_upto card write n).counter (write n).block here.high
        (eq-eqb (write_end (written_upto card write n) (write n).address (written_upto card write n).counter) done_result done_now)

    after_more : IsAfter card m write (suc n)
    after_more = record {
      long = blocks_long (written_upto card write n) (write n).address (write n).block done_now a.long;
      counter = counter_up (written_upto card write n) (write n).address (write n).block done_now ∙ omega (arith, a.counter);
      keyed = a.keyed;
      map = ap map_of_blocks moved ∙ free_keeps (blocks_of (written_upto card write n)) m a.map (write n).address (write n).block here;
      first = ap (λ (b : Blocks). b 1) moved ∙ written_off (blocks_of (written_upto card write n)) (write n).address 1 (write n).block (λ e. absurd (omega (arith, e, here.low))) ∙ a.first;
      others = λ c ne.
          ap (λ (b : Blocks). b c) moved ∙ written_off (blocks_of (written_upto card write n)) (write n).address c (write n).block (ne n (omega arith))
          ∙ a.others c (λ j lt. ne j (omega (arith, lt)));
      written = λ j lt. elim (later j n (omega (arith, lt))) [
        | inl same ↦
            ap (λ (k : ℕ). blocks_of (written_upto card write (suc n)) (write k).address) same
            ∙ ap (λ (b : Blocks). b (write n).address) moved ∙ written_at (blocks_of (written_upto card write n)) (write n).address (write n).block
            ∙ ap (λ (k : ℕ). (write k).block) (sym same)
        | inr before ↦
            ap (λ (b : Blocks). b (write j).address) moved
            ∙ written_off (blocks_of (written_upto card write n)) (write n).address (write j).address (write n).block (apart n j within (omega (arith, before)))
            ∙ a.written j (omega (arith, before))
      ];
      free = λ d f.
          subst (λ (b : Blocks). IsFree b (is_live (b 1)) d) (sym moved)
          (free_stays (blocks_of (written_upto card write n)) m a.map (write n).address (write n).block here d (a.free d f));
    }

  pub after : (n : ℕ) → n ≤ count → IsAfter card m write n
  after zero le = record {
    long = long;
    counter = omega arith;
    keyed = refl;
    map = is;
    first = refl;
    others = λ c ne. refl;
    written = λ j lt. absurd (omega (arith, lt));
    free = λ d f. f;
  }
  after (suc n) le = after_more n (omega (arith, le)) (after n (omega (arith, le)))

-- RUNS
pub run_on : (Holds : CardState → Type 0) (old mid new : CardState) (between : List CardState) → IsCardRun Holds old between mid → IsCardWrite mid new → Holds new
    → IsCardRun Holds old (between ++ new ∷ []) new
run_on Holds old mid new [] run write holds = (run.0, subst (λ (c : CardState). IsCardWrite c new) run.1 write, (holds, refl))
run_on Holds old mid new (next ∷ between) run write holds = (run.0, run.1, run_on Holds next mid new between run.2 write holds)

pub runs_on : (Holds : CardState → Type 0) (old mid new : CardState) → CardRuns Holds old mid → IsCardWrite mid new → Holds new → CardRuns Holds old new
runs_on Holds old mid new runs write holds = record { between = runs.between ++ new ∷ []; run = run_on Holds old mid new runs.between runs.run write holds }

-- each of the first writes leaves a card of which this holds
pub runs_upto : (Holds : CardState → Type 0) (card : CardState) (write : ℕ → CardWrite) (n : ℕ) → ((j : ℕ) → j ≤ n → Holds (written_upto card write j))
    → ((j : ℕ) → j < n → (write j).address ≢ 0) → CardRuns Holds card (written_upto card write n)
runs_upto Holds card write zero holds apart = record { between = []; run = (holds 0 (omega arith), refl) }
runs_upto Holds card write (suc n) holds apart =
    runs_on Holds card (written_upto card write n) (written_upto card write (suc n)) (runs_upto Holds card write n (λ j le. holds j (omega (arith, le))) (λ j lt. apart j (omega (arith, lt))))
    (record {
      address = (write n).address;
      counter = (written_upto card write n).counter;
      block = (write n).block;
      apart = apart n (omega arith);
      is = refl;
    }) (holds (suc n) (omega arith))
