-- What the reads of a mount give.
use Rattle.std.specs.Prelude.{◌≡◌, ℕ, List, None, Err}
use Rattle.rpmb_card.specs.Card.{CardState}
use Rattle.rpmb_card.specs.Port.{PortState}
use Rattle.rpmb_host.specs.Honest.{HasCard}
use Rattle.card_maps.specs.CardMaps.{blocks_of, card_map}
use Rattle.card_maps.specs.CardWrites.{live_in}
use Rattle.card_maps.specs.Loading.{HasEntries, IsAdded, IsRefused}
use Rattle.card_maps.specs.TableStates.{TableState}
use Rattle.rpmb_files.specs.declared.fault.CardFault.{CardFault}
use Rattle.rpmb_files.specs.declared.fault.CardFault.TheVariants.{Device, Bad}
use Rattle.rpmb_files.specs.Devices.{Devices}
use Rattle.rpmb_files.specs.Causes.{CauseStands, NoCard}
use Rattle.rpmb_files.specs.Knows.{HasTable, Knows}

-- the block of an entry was read and put in; or it is refused
abbrev pub EntryRead : (key : List ℕ) → PortState → (b : ℕ) → (t u : TableState) → Type 0
EntryRead key port b t u = (card : CardState) → HasCard port key card → IsAdded (blocks_of card b) b t u

abbrev pub EntryFault : (key : List ℕ) → (b : ℕ) → TableState → (old new : Devices) → CardFault → Type 0
EntryFault key b t old new (Bad block offset) = (block ≡ b) × ((card : CardState) → HasCard old.port key card → IsRefused (blocks_of card b) t offset)
EntryFault key b t old new (Device cause) = CauseStands (NoCard key old) key old new cause
EntryFault key b t old new fault = ⊥

-- all entries of a card that has this map block were read; or the first fault of the card is this
abbrev pub EntriesRead : (key : List ℕ) → PortState → (map : List ℕ) → TableState → Type 0
EntriesRead key port map t =
    (card : CardState) → HasCard port key card → blocks_of card 1 ≡ map → HasEntries (blocks_of card) (live_in card) 256 t

abbrev pub EntriesFault : (key : List ℕ) → (map : List ℕ) → (old new : Devices) → CardFault → Type 0
EntriesFault key map old new (Bad block offset) =
    (card : CardState) → HasCard old.port key card → blocks_of card 1 ≡ map → card_map card ≡ Err (record { block = block; offset = offset })
EntriesFault key map old new (Device cause) = CauseStands (NoCard key old) key old new cause
EntriesFault key map old new fault = ⊥

-- the table is that of a card that has the key; and so is the counter
abbrev pub MapRead : (key : List ℕ) → PortState → TableState → Type 0
MapRead key port t = (card : CardState) → HasCard port key card → HasTable t card

abbrev pub TableRead : (key : List ℕ) → PortState → (counter : ℕ) → TableState → Type 0
TableRead key port counter t = (card : CardState) → HasCard port key card → Knows counter t None card
