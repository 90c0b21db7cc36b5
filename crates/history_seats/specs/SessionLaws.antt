-- What a pass's view tells of its session after the whole history.
use Rattle.std.specs.Prelude.{◌≡◌, ◌⊎◌, ◌<◌, ℕ, true, List, [], ◌∷◌, length, None, is_some}
use Rattle.store_model.specs.History.{count_of}
use Rattle.store_model.specs.Legal.{IsLegalFrom}
use Rattle.store_model.specs.Machine.{Session}
use Rattle.store_model.specs.Record.{events_of, file_of}
use Rattle.store_model.specs.ReplayState.{ReplayState, replay_after}
use Rattle.history_seats.specs.Records.{HistoryRecord}
use Rattle.history_seats.specs.Settling.{Pending, calm, dropped, open_from, settling, settled, is_landing}
use Rattle.history_seats.specs.Known.{session_from}
use Rattle.history_seats.specs.Views.{GateView, PassView}
use Rattle.history_seats.specs.Rule.{PassFits}

-- A pass's view tells how many events its session has in the whole history, so it tells the number of the next one.
abbrev pub PassesTellCounts : Type 0
PassesTellCounts = (gate : GateView) (pass : PassView) → PassFits gate pass → count_of pass.session (events_of gate.all) ≡ count_of pass.session (events_of pass.seen)

-- Each landing stands where a doubt is open. So it is in a legal history.
abbrev pub AreLandingsDue : ReplayState → List HistoryRecord → Type 0
AreLandingsDue s [] = Unit {0}
AreLandingsDue s (r ∷ records) = (is_landing r.event ≡ true → is_some s.doubt ≡ true) × AreLandingsDue (replay_after s r.event (file_of r)) records

-- the one is the other, or that with its doubt dropped: the replay drops a doubt at another session's call, too
abbrev pub MayBeDropped : {X : Type 0} → Pending X → Pending X → Type 0
MayBeDropped p q = (p ≡ q) ⊎ (p ≡ dropped q)

-- A pass's view tells the state of its session after the whole history: past what it has seen, only the event that settles the session's
-- doubt counts, or drops it, and the gate's place.
abbrev pub PassesTellSessions : Type 0
PassesTellSessions =
    (start : ReplayState) (gate : GateView) (pass : PassView) (fits : PassFits gate pass)
    → start.doubt ≡ None → pass.session < length start.state.sessions → AreLandingsDue start gate.all
    → MayBeDropped (session_from gate.decided pass.session start gate.all)
    (open_from gate.decided gate.all (settled (settling fits.sees.begins.rest) (session_from pass.decided pass.session start pass.seen)))

-- A session that no doubt touches in a pass's view stands after the whole history, untouched by a doubt.
abbrev pub CalmSessionsStay : Type 0
CalmSessionsStay =
    (start : ReplayState) (gate : GateView) (pass : PassView) (session : Session) → PassFits gate pass
    → start.doubt ≡ None → pass.session < length start.state.sessions → AreLandingsDue start gate.all
    → session_from pass.decided pass.session start pass.seen ≡ calm session
    → session_from gate.decided pass.session start gate.all ≡ calm session

-- The landings of a legal history are due.
abbrev pub LegalLandingsAreDue : Type 0
LegalLandingsAreDue = (tampered : List ℕ) (start : ReplayState) (records : List HistoryRecord) → IsLegalFrom tampered start records → AreLandingsDue start records
