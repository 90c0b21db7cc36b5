-- What a store knows of a card that has its key.
use Rattle.std.specs.Prelude.{◌≡◌, ◌≢◌, ◌⊎◌, ℕ, ◌<◌, not, List, Option, Some, None}
use Rattle.rpmb_card.specs.Card.{CardState}
use Rattle.rpmb_card.specs.Port.{PortState}
use Rattle.rpmb_host.specs.Honest.{HasCard}
use Rattle.card_maps.specs.CardMaps.{CardMap, blocks_of}
use Rattle.card_maps.specs.Puts.{map_block}
use Rattle.card_maps.specs.TableStates.{TableState}
use Rattle.card_maps.specs.Tables.{IsChangedTable, IsTableOf, live_changed, live_of}
use Rattle.card_maps.specs.declared.change.TableChange.{TableChange}
use Rattle.rpmb_files.specs.declared.store.Doubt.{Doubt}
use Rattle.rpmb_files.specs.declared.store.Doubt.TheVariants.{OfFreeBlock, OfMap}

-- the table is the card's
abbrev pub HasTable : TableState → CardState → Type 0
HasTable t card = (m : CardMap) × IsTableOf t card m

-- the card has the map block after a change, and the table after it is the card's
pub record HasChanged (t : TableState) (change : TableChange) (card : CardState) : Type 0 where
  pub map : CardMap
  pub is : (u : TableState) → IsChangedTable t change u → IsTableOf u card map
  pub block : blocks_of card 1 ≡ map_block (live_changed (live_of t) change)

-- a change is seen: of some block it changes whether it is a live entry
abbrev pub Alters : TableState → TableChange → Type 0
Alters t change = (c : ℕ) × (c < 256) × (live_changed (live_of t) change c ≡ not (live_of t c))

-- A store knows the counter and the table; while the write of a free block is in doubt the table; while that of the map block is,
-- that the table is the card's before the change or after it.
abbrev pub Knows : (counter : ℕ) → TableState → Option Doubt → CardState → Type 0
Knows counter t None card = HasTable t card × (card.counter ≡ counter)
Knows counter t (Some OfFreeBlock) card = HasTable t card
Knows counter t (Some (OfMap change)) card = (HasTable t card ⊎ HasChanged t change card) × Alters t change

abbrev pub IsStore : PortState → (key : List ℕ) → (counter : ℕ) → TableState → Option Doubt → Type 0
IsStore port key counter t doubt = (card : CardState) → HasCard port key card → Knows counter t doubt card

-- what a map block that is read makes of the table: the change was made where it is the one that was written
abbrev pub Follows : TableState → Doubt → (block : List ℕ) → TableState → Type 0
Follows t OfFreeBlock block u = u ≡ t
Follows t (OfMap change) block u =
    ((map_block (live_changed (live_of t) change) ≡ block) × IsChangedTable t change u) ⊎ ((map_block (live_changed (live_of t) change) ≢ block) × (u ≡ t))
