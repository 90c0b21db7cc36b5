-- When a gate and slots are ready for a session's call on an object.
use Rattle.std.specs.Prelude.{List, None, ℕ, ◌≡◌, ◌≤◌}
use Rattle.call_steps.specs.CallerSessions.{CallerSession}
use Rattle.hmac_keys.specs.KeyTable.{rpmb_key}
use Rattle.call_steps.specs.Commits.{IsCalm}
use Rattle.call_steps.specs.GuardedGates.{GuardedGateValue}
use Rattle.call_steps.specs.SlotValues.{SlotValue}
use Rattle.rpmb_card.specs.Card.{CardState}
use Rattle.rpmb_card.specs.Port.{PortState}
use Rattle.rpmb_host.specs.Honest.{HasCard}
use Rattle.call_steps.specs.Slots.{AreSlots}
use Rattle.core_laws.specs.Stores.{Store}

-- The host has that key, and a card that is told with it has the gate's counter.
pub record KnowsCard (port : PortState) (host key : List ℕ) (counter : ℕ) : Type 0 where
  pub keyed : host ≡ key
  pub counted : (card : CardState) → HasCard port key card → card.counter ≡ counter

-- There is room for the call's event and for what it may bring, no commit is in doubt, and the session saw the history.
pub record IsReady {F R E : Type 0} (of_port : R → PortState) (store : Store) (gate : GuardedGateValue F R) (slots : List SlotValue) (session : CallerSession E) : Type 0 where
  pub names : 1 ≤ gate.gate.room
  pub handles : 1 ≤ gate.gate.open_handles.spare
  pub events : 1 ≤ gate.journal.spare
  pub idle : gate.gate.doubt ≡ None
  pub calm : IsCalm store gate.journal.knows session
  pub slots_are : AreSlots slots
  pub known : KnowsCard (of_port gate.gate.host.port) gate.gate.host.key (rpmb_key store.keys.huk) gate.gate.counter
