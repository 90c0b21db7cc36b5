-- What a write of the host does to the map of a card.
use Rattle.std.specs.Prelude.{◌≡◌, ℕ, ◌<◌, ◌≤◌, Bool, true, List, Ok}
use Rattle.store_model.specs.declared.name.ObjectName.{ObjectName}
use Rattle.store_model.specs.Name.{name_eq}
use Rattle.rpmb_card.specs.Card.{CardState, IsCard}
use Rattle.rpmb_card.specs.Protocol.{done_result}
use Rattle.rpmb_host.specs.Honest.{write_end, written_card}
use Rattle.card_maps.specs.Form.{is_live, name_in}
use Rattle.card_maps.specs.CardMaps.{CardMap, Live, blocks_of, card_map, object_in}
use Rattle.card_maps.specs.Puts.{IsFree, IsReady, live_after, live_without, map_block}
use Rattle.card_maps.specs.Steps.{HasPut, HasRemoved}

-- the live entries of a card
abbrev pub live_in : CardState → Live
live_in card = is_live (blocks_of card 1)

-- A write of a free block, done or refused, leaves the map.
abbrev pub FreeCardWritesKeepMaps : Type 0
FreeCardWritesKeepMaps =
    (card : CardState) (m : CardMap) → IsCard card → card_map card ≡ Ok m → (address counter : ℕ) (block : List ℕ) → IsFree (blocks_of card) (live_in card) address
    → card_map (written_card card address counter block) ≡ Ok m

-- A write of the map block that is done makes the map the one after the put of entry b, or after a removal.
abbrev pub MapCardWritesFlip : Type 0
MapCardWritesFlip =
    (card : CardState) (m : CardMap) → IsCard card → card_map card ≡ Ok m → (counter b : ℕ) (is_old : ℕ → Bool) → write_end card 1 counter ≡ done_result
    → IsReady (blocks_of card) (live_in card) b is_old
    → HasPut m (name_in (blocks_of card b)) (object_in (blocks_of card) b).bytes (written_card card 1 counter (map_block (live_after (live_in card) b is_old)))

abbrev pub MapCardWritesClear : Type 0
MapCardWritesClear =
    (card : CardState) (m : CardMap) → IsCard card → card_map card ≡ Ok m → (counter : ℕ) (name : ObjectName) (is_old : ℕ → Bool) → write_end card 1 counter ≡ done_result
    → ((c : ℕ) → 2 ≤ c → c < 256 → live_in card c ≡ true → is_old c ≡ name_eq (name_in (blocks_of card c)) name)
    → HasRemoved m name (written_card card 1 counter (map_block (live_without (live_in card) is_old)))
