-- The devices of a card store: the port to the card, and the entropy.
use Rattle.std.specs.Prelude.{◌≡◌, ℕ, ◌≤◌, List, IsTrue}
use Rattle.rpmb_card.specs.Card.{CardState}
use Rattle.rpmb_card.specs.Port.{PortState}
use Rattle.rpmb_host.specs.Honest.{HadCard, HasCard}

-- what is known of the port, and how many draws failed
pub record Devices : Type 0 where
  pub port : PortState
  pub draws : ℕ

abbrev pub devices : PortState → ℕ → Devices
devices port draws = record { port = port; draws = draws }

-- What all exchanges and draws keep. A card that has the key is told before them exactly where one is told after them; counts of
-- faults never fall; a calm port stays calm and counts none.
pub record GoesOn (key : List ℕ) (old new : Devices) : Type 0 where
  pub keeps : (card : CardState) → HasCard old.port key card → HadCard new.port key
  pub was : (card : CardState) → HasCard new.port key card → HadCard old.port key
  pub counted : old.port.faults ≤ new.port.faults
  pub drawn : old.draws ≤ new.draws
  pub calm : IsTrue old.port.calm → IsTrue new.port.calm
  pub passed : IsTrue old.port.calm → new.port.faults ≡ old.port.faults
