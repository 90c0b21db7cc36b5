-- A session of the machine under a tamper scenario, by its view and over its own events.
use Rattle.std.specs.Prelude.{◌≡◌, ◌≤◌, ◌<◌, ℕ, List, [], ◌∷◌, ◌++◌, length, Option, Some}
use Rattle.tee_types.specs.declared.call.Call.{Call}
use Rattle.tee_types.specs.declared.reply.Reply.{Reply}
use Rattle.store_model.specs.declared.event.Event.TheVariants.{Call as CallEvent}
use Rattle.store_model.specs.declared.event.Mark.TheVariants.{Unchanged, Made, Doubtful}
use Rattle.store_model.specs.Doubt.{session_landed}
use Rattle.store_model.specs.Machine.{Session, session_at}
use Rattle.store_model.specs.Record.{Tag}
use Rattle.history_seats.specs.Records.{HistoryRecord, Version}
use Rattle.history_seats.specs.Settling.{HasMark, calm, open_from, settled, settling}
use Rattle.history_seats.specs.Known.{session_from}
use Rattle.history_seats.specs.SessionLaws.{MayBeDropped}
use Rattle.history_seats.specs.Views.{GateView, PassView}
use Rattle.history_seats.specs.Rule.{PassFits}
use Rattle.core_laws.specs.TamperScenarios.{TamperScenario}
use Rattle.core_laws.specs.Stores.{Store, replay_at, start_under}
use Rattle.core_laws.specs.Answered.{AreAnswered}

-- A phase has a session for each application.
abbrev pub SessionsAreApplications : Type 0
SessionsAreApplications =
    (store : Store) (scenario : TamperScenario) (records : List HistoryRecord) → length (replay_at store scenario records).state.sessions ≡ length store.mounted.applications

-- A view tells its session after the whole history, where that is answered: settled by what is past the view, or dropped.
abbrev pub ViewsTellSessions : Type 0
ViewsTellSessions =
    (store : Store) (scenario : TamperScenario) (gate : GateView) (pass : PassView) (fits : PassFits gate pass) → pass.session < length store.mounted.applications
    → AreAnswered store scenario gate.all
    → MayBeDropped (session_from gate.decided pass.session (start_under store scenario) gate.all)
    (open_from gate.decided gate.all (settled (settling fits.sees.begins.rest) (session_from pass.decided pass.session (start_under store scenario) pass.seen)))

-- One that no doubt touches stands.
abbrev pub CalmSessionsStand : Type 0
CalmSessionsStand =
    (store : Store) (scenario : TamperScenario) (gate : GateView) (pass : PassView) (session : Session) → PassFits gate pass → pass.session < length store.mounted.applications
    → AreAnswered store scenario gate.all → session_from pass.decided pass.session (start_under store scenario) pass.seen ≡ calm session
    → session_from gate.decided pass.session (start_under store scenario) gate.all ≡ calm session

-- Behind an event with mark Unchanged it is the machine's.
abbrev pub UnchangedSessionsStand : Type 0
UnchangedSessionsStand =
    (store : Store) (scenario : TamperScenario) (records : List HistoryRecord) (i z : ℕ) (r : HistoryRecord) (session : Session) → z ≤ length records → HasMark Unchanged r.event
    → session_from z i (start_under store scenario) records ≡ calm session
    → session_from z i (start_under store scenario) (records ++ r ∷ []) ≡ calm (session_at (replay_at store scenario (records ++ r ∷ [])).state i)

-- Behind a commit that is made each session is the machine's.
abbrev pub MadeSessionsStand : Type 0
MadeSessionsStand =
    (store : Store) (scenario : TamperScenario) (records : List HistoryRecord) (i z session number : ℕ) (call : Call) (reply : Reply) (commit : ℕ) (tag : Option (Tag Version))
    → z ≤ length records
    → let after = records ++ record { event = CallEvent session number call reply (Made commit); tag = tag } ∷ [] in
    session_from z i (start_under store scenario) after ≡ calm (session_at (replay_at store scenario after).state i)

-- Behind its own commit in doubt it stands as before, and its doubt leaves what the machine's landing does.
abbrev pub DoubtfulSessionsStand : Type 0
DoubtfulSessionsStand =
    (store : Store) (scenario : TamperScenario) (records : List HistoryRecord) (i z number : ℕ) (call : Call) (reply : Reply) (commit : ℕ) (tag : Option (Tag Version))
    → z ≤ length records
    → session_from z i (start_under store scenario) (records ++ record { event = CallEvent i number call reply (Doubtful commit); tag = tag } ∷ [])
    ≡ record {
      now = session_at (replay_at store scenario records).state i;
      if_landed = Some (session_landed (replay_at store scenario records).state i call);
    }
