-- What a write of the host does to the blocks of a card, and so to its map.
use Rattle.std.proofs.Common.{◌≡◌, inl, inr, ℕ, ◌<◌, ◌==◌, Bool, true, false, cond, List, [], length, sym, ap, ◌∙◌, arith}
use Rattle.std.specs.Prelude.{slice_index_or, slice_set}
use Rattle.std.proofs.lemmas.Bool.{cases_Bool, cond-true, cond-false, eq-eqb, eqb-true}
use Rattle.std.proofs.lemmas.List.{get_or-set_same, get_or-set_other}
use Rattle.rpmb_card.specs.Card.{CardState}
use Rattle.rpmb_card.specs.Protocol.{done_result}
use Rattle.rpmb_host.specs.Honest.{write_end, written_card}
use Rattle.card_maps.specs.CardMaps.{blocks_of, map_of_blocks}
use Rattle.card_maps.specs.Puts.{live_after, live_without, map_block, with_block}
use Rattle.card_maps.specs.CardWrites.{FreeCardWritesKeepMaps, MapCardWritesClear, MapCardWritesFlip, live_in}
use Rattle.card_maps.proofs.Ranges.{not_same}
use Rattle.card_maps.proofs.Writes.{free_keeps}
use Rattle.card_maps.proofs.Flips.{clears, flips}

module _ (card : CardState) (long : length card.blocks ≡ 256) (address counter : ℕ) (block : List ℕ) where
  by_end : (b : Bool) → (write_end card address counter == done_result) ≡ b → blocks_of (written_card card address counter block) ≡ (λ c. slice_index_or (cond b (slice_set card.blocks address block) card.blocks) c [])
  by_end b is = λ i c. slice_index_or (cond (is i) (slice_set card.blocks address block) card.blocks) c []

  pub refused_blocks : (write_end card address counter == done_result) ≡ false → blocks_of (written_card card address counter block) ≡ blocks_of card
  refused_blocks nay = by_end false nay

  set_at : address < 256 → (c : ℕ) → slice_index_or (slice_set card.blocks address block) c [] ≡ with_block (blocks_of card) address block c
  set_at lt c = elim (cases_Bool (c == address)) [
    | inl same ↦
        let here : c ≡ address = eqb-true c address same in
        ap (λ (k : ℕ). slice_index_or (slice_set card.blocks address block) k []) here
        ∙ get_or-set_same card.blocks address block [] (omega (arith, lt, long))
        ∙ sym (cond-true (c == address) block (slice_index_or card.blocks c []) same)
    | inr other ↦ get_or-set_other card.blocks address c block [] (not_same c address other) ∙ sym (cond-false (c == address) block (slice_index_or card.blocks c []) other)
  ]

  pub done_blocks : address < 256 → (write_end card address counter == done_result) ≡ true → blocks_of (written_card card address counter block) ≡ with_block (blocks_of card) address block
  done_blocks lt aye = by_end true aye ∙ (λ i c. set_at lt c i)

pub free_card : FreeCardWritesKeepMaps
free_card card m sound is address counter block free = elim (cases_Bool (write_end card address counter == done_result)) [
  | inl aye ↦ ap map_of_blocks (done_blocks card sound.blocks address counter block free.high aye) ∙ free_keeps (blocks_of card) m is address block free
  | inr nay ↦ ap map_of_blocks (refused_blocks card sound.blocks address counter block nay) ∙ is
]

pub flip_card : MapCardWritesFlip
flip_card card m sound is counter b is_old done ready =
    let flipped = flips (blocks_of card) m is b is_old ready in
    record {
      objects = flipped.0;
      is = ap map_of_blocks (done_blocks card sound.blocks 1 counter (map_block (live_after (live_in card) b is_old)) (omega arith) (eq-eqb (write_end card 1 counter) done_result done)) ∙ flipped.1;
      each = flipped.2;
    }

pub clear_card : MapCardWritesClear
clear_card card m sound is counter name is_old done named =
    let taken = clears (blocks_of card) m is name is_old named in
    record {
      objects = taken.0;
      is = ap map_of_blocks (done_blocks card sound.blocks 1 counter (map_block (live_without (live_in card) is_old)) (omega arith) (eq-eqb (write_end card 1 counter) done_result done)) ∙ taken.1;
      each = taken.2;
    }
