-- A card store, as contracts see it.
use Rattle.std.specs.Prelude.{◌≡◌, ℕ, Bool, List, Ok, IsTrue}
use Rattle.rpmb_card.specs.Card.{CardState}
use Rattle.rpmb_card.specs.Port.{PortState}
use Rattle.rpmb_host.specs.Calls.{HostState}
use Rattle.rpmb_host.specs.Honest.{HasCard}
use Rattle.card_maps.specs.declared.name.CardName.{CardName}
use Rattle.card_maps.specs.CardMaps.{CardMap, card_map}
use Rattle.card_maps.specs.Names.{names_of}
use Rattle.rpmb_files.specs.Devices.{Devices, devices}

-- The host and the entropy that it was mounted with; the names that a list gives, in the order of their blocks; and whether the store
-- knows that they are those of the card's map. It does not where a write was not confirmed, until the card was read again.
pub record StoreValue (R E : Type 0) : Type 0 where
  pub host : HostState R
  pub entropy : E
  pub shown : List CardName
  pub settled : Bool

pub record StoreState : Type 0 where
  pub devices : Devices
  pub key : List ℕ
  pub shown : List CardName
  pub settled : Bool

abbrev pub store_state : {R E : Type 0} → (R → PortState) → (E → ℕ) → StoreValue R E → StoreState
store_state state faults s =
    record { devices = devices (state s.host.port) (faults s.entropy); key = s.host.key; shown = s.shown; settled = s.settled }

-- Over a card that has the key, with this map.
abbrev pub OverCards : StoreState → (CardState → CardMap → Type 0) → Type 0
OverCards s P = (card : CardState) → HasCard s.devices.port s.key card → (m : CardMap) → card_map card ≡ Ok m → P card m

-- where the store knows it, the names are those of the card's map
abbrev pub ShowsNames : StoreState → Type 0
ShowsNames s = OverCards s (λ card m. IsTrue s.settled → s.shown ≡ names_of m)
