-- A session that sees the whole history, and has learnt what became of its commit in doubt.
use Rattle.std.specs.Prelude.{◌≡◌, ◌≤◌, ℕ, length, Option, Some, None}
use Rattle.store_model.specs.declared.event.Event.{Event}
use Rattle.store_model.specs.Machine.{Session}
use Rattle.history_seats.specs.Views.{GateView, PassView, Sight}
use Rattle.history_seats.specs.Changes.{pass_renewed}
use Rattle.history_seats.specs.Rule.{PassFits}
use Rattle.core_laws.specs.Stores.{Store}
use Rattle.core_laws.specs.Sessions.{Extends, IsSessionOf, SessionValue}
use Rattle.commit_gate.specs.declared.own_doubt.OwnDoubt.{OwnDoubt}
use Rattle.commit_gate.specs.declared.doubt_outcome.Settled.{Settled}
use Rattle.commit_gate.specs.declared.doubt_outcome.Settled.TheVariants.{Open, Landed, Dropped}
use Rattle.commit_gate.specs.Outcomes.{outcome_at}
use Rattle.commit_gate.specs.CallerSessions.{CallerSession, landed_by}

-- a seat once it sees the whole history
abbrev pub pass_shown : GateView → Option (Sight PassView) → Option (Sight PassView)
pass_shown gate None = None
pass_shown gate (Some pass) = Some (record pass { knows = pass_renewed gate pass.knows })

abbrev pub state_by : Settled → Session → OwnDoubt → Session
state_by Open s doubt = s
state_by Landed s doubt = landed_by s doubt.landing
state_by Dropped s doubt = s

abbrev pub doubt_by : Settled → OwnDoubt → Option OwnDoubt
doubt_by Open doubt = Some doubt
doubt_by Landed doubt = None
doubt_by Dropped doubt = None

-- the state and the doubt, once the session knows what became of its commit in doubt
abbrev pub state_learnt : GateView → Session → Option OwnDoubt → Session
state_learnt gate s None = s
state_learnt gate s (Some doubt) = state_by (outcome_at gate doubt.place) s doubt

abbrev pub doubt_learnt : GateView → Option OwnDoubt → Option OwnDoubt
doubt_learnt gate None = None
doubt_learnt gate (Some doubt) = doubt_by (outcome_at gate doubt.place) doubt

-- the session as it sees the whole history
abbrev pub shown : {E : Type 0} → GateView → CallerSession E → CallerSession E
shown gate s = record {
  pass = pass_shown gate s.pass;
  number = s.number;
  made = s.made;
  state = state_learnt gate s.state s.doubt;
  doubt = doubt_learnt gate s.doubt;
  entropy = s.entropy;
}

-- the seat's view is the gate's
pub record SeesAll (gate : GateView) (pass : Option (Sight PassView)) : Type 0 where
  pub seat : Sight PassView
  pub is : pass ≡ Some seat
  pub whole : seat.knows.seen ≡ gate.all
  pub place : seat.knows.decided ≡ gate.decided

-- the seat's view begins the gate's history, past which its session has no event
pub record BeginsAll (gate : GateView) (pass : Option (Sight PassView)) : Type 0 where
  pub seat : Sight PassView
  pub is : pass ≡ Some seat
  pub fits : PassFits gate seat.knows
  pub within : gate.decided ≤ length gate.all

-- What extends the view of a session that was shown the whole history extends the view before it.
abbrev pub ShownSessionsExtend : Type 0
ShownSessionsExtend =
    (store : Store) (gate : GateView) (before between after : SessionValue) (event : Event) (place : ℕ) → IsSessionOf store before
    → BeginsAll gate before.pass → SeesAll gate between.pass → between.number ≡ before.number
    → Extends store between after event place → Extends store before after event place
