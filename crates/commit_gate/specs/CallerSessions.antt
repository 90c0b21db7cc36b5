-- What contracts see of a caller's session, and when it is a store's.
use Rattle.std.specs.Prelude.{◌≡◌, ◌≤◌, ℕ, true, false, List, ◌∷◌, ◌++◌, length, Option, Some, None, option_map}
use Rattle.std.specs.List.{list_any}
use Rattle.tee_types.specs.declared.call.Call.{Call}
use Rattle.tee_types.specs.declared.call.Call.TheVariants.{Delete, Rename}
use Rattle.store_model.specs.declared.session.Handle.{Handle}
use Rattle.store_model.specs.Machine.{Session, handle_at, with_handle, without_handle}
use Rattle.store_model.specs.Record.{events_of}
use Rattle.history_seats.specs.Records.{HistoryRecord, is_of_session}
use Rattle.history_seats.specs.Settling.{Pending, is_doubtful, settles}
use Rattle.history_seats.specs.Views.{PassView, Sight}
use Rattle.core_laws.specs.Stores.{Store}
use Rattle.core_laws.specs.Sessions.{IsSessionOf, SessionValue}
use Rattle.commit_gate.specs.declared.own_doubt.Landing.{Landing}
use Rattle.commit_gate.specs.declared.own_doubt.Landing.TheVariants.{Nothing, Closes, Renames}
use Rattle.commit_gate.specs.declared.own_doubt.OwnDoubt.{OwnDoubt}

-- what the landing of a call's commit does to its session
abbrev pub landing_of_call : Call → Landing
landing_of_call (Delete handle) = Closes handle
landing_of_call (Rename handle id) = Renames handle id
landing_of_call _ = Nothing

-- the live handle of that number stands for the object of that identifier
abbrev pub renamed : Session → (number : ℕ) → (id : List ℕ) → Option Handle → Session
renamed s number id None = s
renamed s number id (Some handle) = with_handle s number (record handle { name = record { app = s.application; id = id } })

abbrev pub landed_by : Session → Landing → Session
landed_by s Nothing = s
landed_by s (Closes handle) = without_handle s handle
landed_by s (Renames handle id) = renamed s handle id (handle_at s handle)

-- the session as it stands, and once its commit in doubt landed
abbrev pub pending_of : Session → Option OwnDoubt → Pending Session
pending_of s doubt = record { now = s; if_landed = option_map (λ d. landed_by s d.landing) doubt }

-- its seat, if that is not lent; its number; how many events it has; the machine's session; its own commit in doubt, and its entropy
pub record CallerSession (E : Type 0) : Type 0 where
  pub pass : Option (Sight PassView)
  pub number : ℕ
  pub made : ℕ
  pub state : Session
  pub doubt : Option OwnDoubt
  pub entropy : E

abbrev pub session_value : {E : Type 0} → CallerSession E → SessionValue
session_value s = record { pass = s.pass; number = s.number; made = s.made; state = pending_of s.state s.doubt }

-- Of these records, whose doubts below that place are decided, the one there is a commit of the session in doubt, and nothing behind it
-- settles it.
pub record IsOwnDoubt (number : ℕ) (seen : List HistoryRecord) (decided place : ℕ) : Type 0 where
  pub front : List HistoryRecord
  pub doubted : HistoryRecord
  pub back : List HistoryRecord
  pub is : front ++ doubted ∷ back ≡ seen
  pub at : length front ≡ place
  pub own : is_of_session number doubted ≡ true
  pub doubtful : is_doubtful doubted.event ≡ true
  pub last : list_any settles (events_of back) ≡ false
  pub late : decided ≤ place

-- so of the session's commit in doubt, if it has one
abbrev pub HasOwnDoubt : {E : Type 0} → CallerSession E → (seen : List HistoryRecord) → (decided : ℕ) → Type 0
HasOwnDoubt s seen decided = (doubt : OwnDoubt) → s.doubt ≡ Some doubt → IsOwnDoubt s.number seen decided doubt.place

-- The session is one of the store's, and so is its commit in doubt.
pub record IsCallerOf {E : Type 0} (store : Store) (s : CallerSession E) : Type 0 where
  pub session : IsSessionOf store (session_value s)
  pub doubt : (pass : Sight PassView) → s.pass ≡ Some pass → HasOwnDoubt s pass.knows.seen pass.knows.decided
