-- When the gate is ready for a session's call on an object, and when no commit can follow.
use Rattle.std.specs.Prelude.{None, ◌≡◌, ◌≤◌}
use Rattle.serial_calls.specs.CallerSessions.{CallerSession}
use Rattle.serial_calls.specs.Commits.{IsCalm}
use Rattle.serial_calls.specs.GuardedGates.{GuardedGateValue}
use Rattle.serial_calls.specs.Stores.{Store}
use Rattle.rpmb_card.specs.Protocol.{last_counter}

-- There is room for the call's event and for what it may bring, no commit is in doubt, and the session saw the history.
pub record IsReady {F R E : Type 0} (store : Store) (gate : GuardedGateValue F R) (session : CallerSession E) : Type 0 where
  pub names : 1 ≤ gate.gate.room
  pub handles : 1 ≤ gate.gate.open_handles.spare
  pub events : 1 ≤ gate.journal.spare
  pub idle : gate.gate.doubt ≡ None
  pub calm : IsCalm store gate.journal.knows session

-- The card's counter is at its end, and no commit is in doubt. So no commit can follow.
abbrev pub IsSpent : {F R : Type 0} → GuardedGateValue F R → Type 0
IsSpent gate = (gate.gate.doubt ≡ None) × (gate.gate.counter ≡ last_counter)
