-- Block 0 is not a card store's: who writes it alone leaves the objects.
use Rattle.std.specs.Prelude.{◌≡◌, ℕ, ◌≤◌, List}
use Rattle.rpmb_card.specs.Card.{CardState}
use Rattle.rpmb_host.specs.Honest.{written_card}
use Rattle.card_maps.specs.CardMaps.{blocks_of, card_map}

-- A card whose blocks from 1 on are another's has its map, or its first byte outside the form.
abbrev pub OtherBlocksTellMaps : Type 0
OtherBlocksTellMaps =
    (old new : CardState) → ((b : ℕ) → 1 ≤ b → blocks_of new b ≡ blocks_of old b) → card_map new ≡ card_map old

-- So a write of block 0 by the host keeps them, done or refused.
abbrev pub FirstBlockWritesKeepMaps : Type 0
FirstBlockWritesKeepMaps =
    (card : CardState) (counter : ℕ) (block : List ℕ) → card_map (written_card card 0 counter block) ≡ card_map card
