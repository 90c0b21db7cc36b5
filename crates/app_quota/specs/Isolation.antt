-- What an application's calls are answered by themselves, and which calls keep it so.
use Rattle.std.specs.Prelude.{◌≡◌, ◌⊎◌, ◌<◌, ℕ, Bool, true, false, List, [], ◌∷◌, length, Option, Some, None}
use Rattle.tee_types.specs.declared.call.Call.{Call}
use Rattle.tee_types.specs.declared.reply.Reply.{Reply}
use Rattle.store_model.specs.declared.event.Event.{Event}
use Rattle.store_model.specs.declared.event.Event.TheVariants.{Call as CallEvent, Landed}
use Rattle.store_model.specs.declared.event.Mark.{Mark}
use Rattle.store_model.specs.Object.{ObjectMap}
use Rattle.store_model.specs.Machine.{MachineState, session_at}
use Rattle.store_model.specs.Record.{Record, file_of}
use Rattle.store_model.specs.Doubt.{Doubt}
use Rattle.store_model.specs.ReplayState.{ReplayState, replay_after}
use Rattle.store_model.specs.Legal.{IsUnavailable, IsDoubted, IsFoundCorrupt, IsSpent}
use Rattle.app_totals.specs.Totals.{totals_of}
use Rattle.app_totals.specs.OwnHandles.{HaveOwnHandles}
use Rattle.app_quota.specs.Parts.{is_session_of, MeetsNoOthers}
use Rattle.app_quota.specs.Limits.{Limits, exceeds, is_beyond, quota_reply}

-- the doubt is of a call of that application
abbrev pub is_doubt_of : List ℕ → MachineState → Option Doubt → Bool
is_doubt_of app s None = false
is_doubt_of app s (Some doubt) = is_session_of app (session_at s doubt.session)

-- the event is a call of the application, or the landing of one
abbrev pub is_event_of : List ℕ → ReplayState → Event → Bool
is_event_of app s (CallEvent session number call reply mark) = is_session_of app (session_at s.state session)
is_event_of app s (Landed commit) = is_doubt_of app s.state s.doubt

-- A device, or a file that is not honest, has the blame for the answer.
abbrev pub IsFault : List ℕ → ReplayState → ℕ → Call → Reply → Mark → Option ℕ → Type 0
IsFault tampered s session call reply mark file =
    IsUnavailable s session call reply mark file ⊎ IsDoubted s session call reply mark ⊎ IsFoundCorrupt tampered s session call reply mark file ⊎ IsSpent s session call reply mark

-- The application's call is answered by its own calls alone, which stand at `u`; or a device has the blame.
abbrev pub IsAnsweredAlone : Limits → List ℕ → ReplayState → ReplayState → Event → Option ℕ → Type 0
IsAnsweredAlone limits tampered s u (CallEvent session number call reply mark) file =
    (reply ≡ quota_reply limits u.state session call) ⊎ IsFault tampered s session call reply mark file
IsAnsweredAlone limits tampered s u (Landed commit) file = Unit {0}

-- so are all calls of the application in these records
abbrev pub IsIsolated : {Root : Type 0} → Limits → List ℕ → List ℕ → ReplayState → ReplayState → List (Record Root) → Type 0
IsIsolated limits tampered app s u [] = Unit {0}
IsIsolated limits tampered app s u (r ∷ records) = elim (is_event_of app s r.event) [
  | true ↦
      IsAnsweredAlone limits tampered s u r.event (file_of r)
      × IsIsolated limits tampered app (replay_after s r.event (file_of r)) (replay_after u r.event (file_of r)) records
  | false ↦ IsIsolated limits tampered app (replay_after s r.event (file_of r)) u records
]

-- A call that was let through leaves no number above its limit, and meets the limit of 256 objects only with its own; or a device has the
-- blame for its answer.
abbrev pub IsLetThrough : Limits → List ℕ → ReplayState → Event → Option ℕ → Type 0
IsLetThrough limits tampered s (CallEvent session number call reply mark) file =
    ((is_beyond limits s.state session call ≡ false) × MeetsNoOthers s.state session call) ⊎ IsUnavailable s session call reply mark file
IsLetThrough limits tampered s (Landed commit) file = Unit {0}

-- so are all of these records
abbrev pub AreLetThrough : {Root : Type 0} → Limits → List ℕ → ReplayState → List (Record Root) → Type 0
AreLetThrough limits tampered s [] = Unit {0}
AreLetThrough limits tampered s (r ∷ records) =
    IsLetThrough limits tampered s r.event (file_of r) × AreLetThrough limits tampered (replay_after s r.event (file_of r)) records

-- handles are on objects of their session's application, and a doubt is of a session that is there
pub record IsProper (s : ReplayState) : Type 0 where
  pub handles : HaveOwnHandles s.state
  pub doubt : (d : Doubt) → s.doubt ≡ Some d → d.session < length s.state.sessions

-- the event is a call of another application, or the landing of one
abbrev pub IsOfOthers : List ℕ → ReplayState → Event → Type 0
IsOfOthers app s (CallEvent session number call reply mark) = (session < length s.state.sessions) × (is_session_of app (session_at s.state session) ≡ false)
IsOfOthers app s (Landed commit) = is_doubt_of app s.state s.doubt ≡ false

-- so is each of these
abbrev pub AreOfOthers : {Root : Type 0} → List ℕ → ReplayState → List (Record Root) → Type 0
AreOfOthers app s [] = Unit {0}
AreOfOthers app s (r ∷ records) = IsOfOthers app s r.event × AreOfOthers app (replay_after s r.event (file_of r)) records

-- A call leaves no number above its limit; or a device has the blame for its answer.
abbrev pub IsWithin : Limits → ReplayState → Event → Option ℕ → Type 0
IsWithin limits s (CallEvent session number call reply mark) file = (is_beyond limits s.state session call ≡ false) ⊎ IsUnavailable s session call reply mark file
IsWithin limits s (Landed commit) file = Unit {0}

-- so do all of these
abbrev pub AreWithin : {Root : Type 0} → Limits → ReplayState → List (Record Root) → Type 0
AreWithin limits s [] = Unit {0}
AreWithin limits s (r ∷ records) = IsWithin limits s r.event (file_of r) × AreWithin limits (replay_after s r.event (file_of r)) records

-- So does a call of that session.
abbrev pub IsOwnWithin : (session : ℕ) → Limits → ReplayState → Event → Option ℕ → Type 0
IsOwnWithin session limits s (CallEvent caller number call reply mark) file = caller ≡ session → IsWithin limits s (CallEvent caller number call reply mark) file
IsOwnWithin session limits s (Landed commit) file = Unit {0}

-- so do all of its calls in these records
abbrev pub AreOwnWithin : {Root : Type 0} → (session : ℕ) → Limits → ReplayState → List (Record Root) → Type 0
AreOwnWithin session limits s [] = Unit {0}
AreOwnWithin session limits s (r ∷ records) = IsOwnWithin session limits s r.event (file_of r) × AreOwnWithin session limits (replay_after s r.event (file_of r)) records

-- No application's number rises above its limit from the one map to the other.
abbrev pub StayWithin : Limits → ObjectMap → ObjectMap → Type 0
StayWithin limits before after = (app : List ℕ) → exceeds (limits app) (totals_of app before) (totals_of app after) ≡ false

-- so it is over each of these records
abbrev pub StayWithinEach : {Root : Type 0} → Limits → ReplayState → List (Record Root) → Type 0
StayWithinEach limits s [] = Unit {0}
StayWithinEach limits s (r ∷ records) =
    StayWithin limits s.state.objects (replay_after s r.event (file_of r)).state.objects × StayWithinEach limits (replay_after s r.event (file_of r)) records
