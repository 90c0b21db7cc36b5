-- The machine keeps its open handles as they should be: at each call, at the landing of a commit, and along a history.
use Rattle.std.specs.Prelude.{◌≡◌, ℕ, true, List, [], ◌∷◌, Some}
use Rattle.tee_types.specs.declared.call.Call.{Call}
use Rattle.store_model.specs.declared.event.Event.{Event}
use Rattle.store_model.specs.declared.event.Event.TheVariants.{Call as CallEvent}
use Rattle.store_model.specs.declared.event.Mark.TheVariants.{Doubtful}
use Rattle.store_model.specs.Machine.{MachineState}
use Rattle.store_model.specs.Calls.{is_commit, reply_of, state_after}
use Rattle.store_model.specs.Doubt.{Doubt, state_landed}
use Rattle.store_model.specs.Legal.{IsLegalFrom, is_commit_due}
use Rattle.store_model.specs.Record.{Record, file_of}
use Rattle.store_model.specs.ReplayState.{PhaseOpening, ReplayState, opening, replay, replay_after}
use Rattle.core_laws.specs.Records.{HistoryRecord}
use Rattle.core_laws.specs.TamperScenarios.{TamperScenario}
use Rattle.core_laws.specs.Stores.{Store, replay_at}
use Rattle.core_laws.specs.Answered.{AreAnswered}
use Rattle.call_rules.specs.WellOpened.{WellOpened}

-- A phase opens without handles.
abbrev pub OpeningsAreWellOpened : Type 0
OpeningsAreWellOpened = (phase : PhaseOpening) → WellOpened (opening phase).state

-- A call leaves the handles well opened, whatever it is answered.
abbrev pub CallsKeepWellOpened : Type 0
CallsKeepWellOpened = (s : MachineState) (i : ℕ) (call : Call) → WellOpened s → WellOpened (state_after s i call)

-- the call in doubt is one that the machine commits
abbrev pub IsDue : MachineState → Doubt → Type 0
IsDue s doubt = is_commit s doubt.session doubt.call (reply_of s doubt.session doubt.call) ≡ true

-- So does the landing of a commit that is due.
abbrev pub LandingsKeepWellOpened : Type 0
LandingsKeepWellOpened = (s : MachineState) (doubt : Doubt) → IsDue s doubt → WellOpened s → WellOpened (state_landed s doubt)

-- The handles are well opened, and a commit in doubt is due.
pub record IsWellReplay (s : ReplayState) : Type 0 where
  pub opened : WellOpened s.state
  pub due : (doubt : Doubt) → s.doubt ≡ Some doubt → IsDue s.state doubt

-- an event that leaves a commit in doubt is one of a call whose commit is due
abbrev pub IsDoubtDue : ReplayState → Event → Type 0
IsDoubtDue s (CallEvent session number call reply (Doubtful commit)) = is_commit_due s session call ≡ true
IsDoubtDue s _ = Unit {0}

-- so is each of these
abbrev pub AreDoubtsDue : {Root : Type 0} → ReplayState → List (Record Root) → Type 0
AreDoubtsDue s [] = Unit {0}
AreDoubtsDue s (r ∷ records) = IsDoubtDue s r.event × AreDoubtsDue (replay_after s r.event (file_of r)) records

-- Every replay in which no commit is left in doubt but one that is due, legal or not, keeps the handles well opened.
abbrev pub ReplaysKeepWellOpened : Type 0 → Type 0
ReplaysKeepWellOpened Root =
    (s : ReplayState) (records : List (Record Root)) → AreDoubtsDue s records → IsWellReplay s → IsWellReplay (replay s records)

-- In a legal history each commit that is left in doubt is due.
abbrev pub LegalDoubtsAreDue : Type 0 → Type 0
LegalDoubtsAreDue Root =
    (tampered : List ℕ) (s : ReplayState) (records : List (Record Root)) → IsLegalFrom tampered s records → AreDoubtsDue s records

-- Where a history is answered, its handles are well opened.
abbrev pub AnsweredHandlesAreWellOpened : Type 0
AnsweredHandlesAreWellOpened =
    (store : Store) (scenario : TamperScenario) (records : List HistoryRecord) → AreAnswered store scenario records → IsWellReplay (replay_at store scenario records)
