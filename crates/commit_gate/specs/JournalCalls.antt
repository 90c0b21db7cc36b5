-- What a session is behind its own call.
use Rattle.std.specs.Prelude.{◌≡◌, ◌⊎◌, ◌<◌, ◌≤◌, ◌^◌, ℕ, true, false, [], ◌∷◌, ◌++◌, length, Option, Some, None, slice_index_or}
use Rattle.tee_types.specs.declared.call.Call.{Call}
use Rattle.tee_types.specs.declared.reply.Reply.{Reply}
use Rattle.tee_types.specs.declared.reply.Reply.TheVariants.{NotAvailable}
use Rattle.tee_types.specs.declared.reply.Cause.{Cause}
use Rattle.store_model.specs.declared.event.Event.TheVariants.{Call as CallEvent}
use Rattle.store_model.specs.declared.event.Mark.TheVariants.{Unchanged, Made, Doubtful}
use Rattle.store_model.specs.Calls.{state_after}
use Rattle.store_model.specs.Legal.{IsUnresolved, is_commit_due, meant_by, needs_file}
use Rattle.store_model.specs.Machine.{Session, session_at}
use Rattle.store_model.specs.ReplayState.{ReplayState, keeps_doubt, state_unless_undone}
use Rattle.history_seats.specs.Records.{HistoryRecord}
use Rattle.history_seats.specs.Known.{session_from}
use Rattle.history_seats.specs.Settling.{Pending}
use Rattle.history_seats.specs.Views.{GateView, PassView, Sight}
use Rattle.core_laws.specs.TamperScenarios.{TamperScenario}
use Rattle.core_laws.specs.Stores.{Store, replay_at, start_under}
use Rattle.core_laws.specs.Answered.{AreAnswered}
use Rattle.core_laws.specs.Sessions.{IsSessionOf}
use Rattle.commit_gate.specs.declared.own_doubt.OwnDoubt.{OwnDoubt}
use Rattle.commit_gate.specs.CallerSessions.{CallerSession, HasOwnDoubt, IsCallerOf, landing_of_call, pending_of, session_value}
use Rattle.commit_gate.specs.SessionViews.{SeesAll}

-- what the view of a seat that may be there is
abbrev pub pass_view : Option (Sight PassView) → Option PassView
pass_view None = None
pass_view (Some pass) = Some pass.knows

-- The call has the machine's reply, commits nothing and needs no object's file.
pub record IsMeantAlone (s : ReplayState) (session : ℕ) (call : Call) (reply : Reply) : Type 0 where
  pub replied : reply ≡ meant_by s session call
  pub unchanged : is_commit_due s session call ≡ false
  pub alone : needs_file s session call reply Unchanged ≡ false
  pub counted : s.counter < 2 ^ 32

-- The call was held up: the open doubt could not be resolved.
pub record IsHeldUp (s : ReplayState) (session : ℕ) (call : Call) (reply : Reply) : Type 0 where
  pub cause : Cause
  pub replied : reply ≡ NotAvailable cause
  pub due : IsUnresolved s session call cause

-- The call is answered with no object's file.
abbrev pub IsToldAlone : ReplayState → (session : ℕ) → Call → Reply → Type 0
IsToldAlone s session call reply = IsMeantAlone s session call reply ⊎ IsHeldUp s session call reply

-- The session is as its next event leaves it, but for its seat and its count: it was the store's with some other state, and under each
-- tamper scenario where all is answered it stands so behind the event.
pub record IsMovedBy {E : Type 0} (store : Store) (gate : GateView) (r : HistoryRecord) (s : CallerSession E) : Type 0 where
  pub before : Pending Session
  pub was : IsSessionOf store (record (session_value s) { state = before })
  pub application : s.state.application ≡ slice_index_or store.mounted.applications s.number []
  pub moves : (scenario : TamperScenario) → AreAnswered store scenario (gate.all ++ r ∷ [])
      → session_from gate.decided s.number (start_under store scenario) (gate.all ++ r ∷ []) ≡ pending_of s.state s.doubt
  pub doubt : HasOwnDoubt s (gate.all ++ r ∷ []) gate.decided

-- The session saw the whole history before its call changed its state, as the machine's is, if its events are answered.
pub record HasMoved {E : Type 0} (store : Store) (gate : GateView) (after : ReplayState → Session) (s : CallerSession E) : Type 0 where
  pub before : Session
  pub was : IsCallerOf store (record s { state = before })
  pub sees : SeesAll gate s.pass
  pub application : s.state.application ≡ before.application
  pub moves : (scenario : TamperScenario) → AreAnswered store scenario gate.all → after (replay_at store scenario gate.all) ≡ s.state

-- the machine's session behind a call that is answered so and commits nothing
abbrev pub session_unless_undone : (session : ℕ) → Call → Reply → ReplayState → Session
session_unless_undone session call reply s = session_at (state_unless_undone s.state session call reply) session

-- and behind one whose commit is made
abbrev pub session_done : (session : ℕ) → Call → ReplayState → Session
session_done session call s = session_at (state_after s.state session call) session

-- Wherever all is answered and the machine commits the session's call, that leaves it so.
abbrev pub LeavesSession : Store → GateView → (session : ℕ) → Call → Session → Type 0
LeavesSession store gate session call after =
    (scenario : TamperScenario) → AreAnswered store scenario gate.all → is_commit_due (replay_at store scenario gate.all) session call ≡ true
    → session_done session call (replay_at store scenario gate.all) ≡ after

-- The session was the store's with some other state, and is as such a commit leaves it.
pub record HasDone {E : Type 0} (store : Store) (gate : GateView) (call : Call) (s : CallerSession E) : Type 0 where
  pub before : Session
  pub was : IsCallerOf store (record s { state = before })
  pub application : s.state.application ≡ before.application
  pub moves : LeavesSession store gate s.number call s.state

-- A call that commits nothing leaves the session so; while its own commit is in doubt, the reply has to leave that.
abbrev pub UnchangedCallsMove : (E : Type 0) → Type 0
UnchangedCallsMove E =
    (store : Store) (gate : GateView) (r : HistoryRecord) (call : Call) (reply : Reply) (s : CallerSession E) → gate.decided ≤ length gate.all
    → r.event ≡ CallEvent s.number s.made call reply Unchanged → ((doubt : OwnDoubt) → s.doubt ≡ Some doubt → keeps_doubt reply ≡ true)
    → HasMoved store gate (session_unless_undone s.number call reply) s → IsMovedBy store gate r s

-- So does one whose commit is made.
abbrev pub MadeCallsMove : (E : Type 0) → Type 0
MadeCallsMove E =
    (store : Store) (gate : GateView) (r : HistoryRecord) (call : Call) (reply : Reply) (commit : ℕ) (s : CallerSession E) → gate.decided ≤ length gate.all
    → r.event ≡ CallEvent s.number s.made call reply (Made commit) → s.doubt ≡ None → HasDone store gate call s → IsMovedBy store gate r s

-- One whose commit is in doubt leaves it as it was, with that doubt.
abbrev pub DoubtfulCallsMove : (E : Type 0) → Type 0
DoubtfulCallsMove E =
    (store : Store) (gate : GateView) (r : HistoryRecord) (call : Call) (reply : Reply) (commit : ℕ) (s : CallerSession E) → gate.decided ≤ length gate.all
    → r.event ≡ CallEvent s.number s.made call reply (Doubtful commit) → IsCallerOf store s → s.doubt ≡ None → SeesAll gate s.pass
    → IsMovedBy store gate r (record s { doubt = Some (record { place = length gate.all; landing = landing_of_call call }) })
