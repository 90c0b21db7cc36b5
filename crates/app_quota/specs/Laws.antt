-- Laws of an application's part of the store.
use Rattle.std.specs.Prelude.{◌≡◌, ◌<◌, ◌≤◌, ◌+◌, ◌++◌, sum_by, max, ℕ, true, false, List, [], length, slice_index_or, Option}
use Rattle.std.specs.List.Sorted.{IsStrictlySortedBy}
use Rattle.std.specs.Map.{keys_of}
use Rattle.tee_types.specs.declared.call.Call.{Call}
use Rattle.store_model.specs.Name.{name_cmp}
use Rattle.store_model.specs.Machine.{MachineState, session_at}
use Rattle.store_model.specs.Calls.{reply_of, state_after}
use Rattle.store_model.specs.Record.{Record, events_of}
use Rattle.store_model.specs.History.{count_of}
use Rattle.store_model.specs.declared.event.Event.TheVariants.{Call as CallEvent}
use Rattle.store_model.specs.declared.event.Mark.TheVariants.{Unchanged}
use Rattle.tee_types.specs.declared.reply.Reply.{Reply}
use Rattle.store_model.specs.ReplayState.{PhaseOpening, ReplayState, opening, replay}
use Rattle.store_model.specs.Legal.{IsLegalEvent, IsLegalFrom}
use Rattle.app_totals.specs.Totals.{objects_of}
use Rattle.app_totals.specs.OwnHandles.{HaveOwnHandles}
use Rattle.app_totals.specs.declared.numbers.Forecast.{Forecast}
use Rattle.app_totals.specs.Meant.{IsForecastOf, may_grow}
use Rattle.app_quota.specs.Limits.{Limits, is_beyond, is_early, tells_beyond}
use Rattle.app_quota.specs.Commitments.{AreDistinctApps, committed_objects, distinct_apps, is_among, others_of, unclaimed_of}
use Rattle.store_model.specs.Object.{ObjectMap}
use Rattle.app_quota.specs.Isolation.{IsIsolated, AreLetThrough, IsProper, AreOfOthers, IsWithin, AreWithin, AreOwnWithin, StayWithinEach}
use Rattle.app_quota.specs.Parts.{is_session_of, part_of, MeetsNoOthers}

-- A call of another application leaves an application's part.
abbrev pub CallsOfOthersStayApart : Type 0
CallsOfOthersStayApart =
    (app : List ℕ) (s : MachineState) (i : ℕ) (call : Call) → i < length s.sessions → HaveOwnHandles s → is_session_of app (session_at s i) ≡ false
    → part_of app (state_after s i call) ≡ part_of app s

-- A call is answered as its application's part alone would answer it, and leaves there what it would leave.
abbrev pub OwnCallsStandAlone : Type 0
OwnCallsStandAlone =
    (s : MachineState) (i : ℕ) (call : Call) → i < length s.sessions → HaveOwnHandles s → IsStrictlySortedBy name_cmp (keys_of s.objects) → MeetsNoOthers s i call
    → (reply_of (part_of (session_at s i).application s) i call ≡ reply_of s i call)
    × (state_after (part_of (session_at s i).application s) i call ≡ part_of (session_at s i).application (state_after s i call))

-- In a phase whose calls were let through each application's calls are answered by its own calls alone, from its own objects; or a device
-- has the blame.
abbrev pub ApplicationsAreIsolated : Type 0 → Type 0
ApplicationsAreIsolated Root =
    (limits : Limits) (tampered app : List ℕ) (phase : PhaseOpening) (records : List (Record Root))
    → IsStrictlySortedBy name_cmp (keys_of phase.objects) → IsLegalFrom tampered (opening phase) records → AreLetThrough limits tampered (opening phase) records
    → IsIsolated limits tampered app (opening phase) (opening (record phase { objects = objects_of app phase.objects })) records

-- Records without an event of an application leave its part of the state, whatever they are answered, legal or not.
abbrev pub QuietRecordsStayApart : Type 0 → Type 0
QuietRecordsStayApart Root =
    (app : List ℕ) (s : ReplayState) (records : List (Record Root)) → IsProper s → AreOfOthers app s records → part_of app (replay s records).state ≡ part_of app s.state

-- A create that is let through meets the limit of all applications' objects nowhere but among its own, where the store has room as long as
-- the application is below its limit.
abbrev pub LetThroughMeetsNoOthers : Type 0
LetThroughMeetsNoOthers =
    (limits : Limits) (s : MachineState) (i : ℕ) (call : Call) → i < length s.sessions → IsStrictlySortedBy name_cmp (keys_of s.objects)
    → is_beyond limits s i call ≡ false
    → (length (objects_of (session_at s i).application s.objects) < (limits (session_at s i).application).objects → length s.objects < 256)
    → MeetsNoOthers s i call

-- Where quotas are not over-committed, and each declared application has at most the greater of its quota and what it had, an application
-- below its quota leaves the store room.
abbrev pub QuotasLeaveRoom : Type 0
QuotasLeaveRoom =
    (limits : Limits) (apps : List (List ℕ)) (opening objects : ObjectMap) (app : List ℕ) → AreDistinctApps apps → is_among app apps ≡ true → committed_objects limits apps opening ≤ 256
    → length (others_of apps objects) ≤ length (others_of apps opening)
    → ((a : List ℕ) → length (objects_of a objects) ≤ max (limits a).objects (length (objects_of a opening)))
    → length (objects_of app objects) < (limits app).objects → length objects < 256

-- In a phase whose quotas are not over-committed each application's calls are answered by its own calls alone, from its own objects, where
-- each call was let through by its quota; or a device has the blame. The limit of 256 objects is in no reply.
abbrev pub QuotasIsolate : Type 0 → Type 0
QuotasIsolate Root =
    (limits : Limits) (tampered app : List ℕ) (apps : List (List ℕ)) (phase : PhaseOpening) (records : List (Record Root))
    → AreDistinctApps apps → ((k : ℕ) → k < length phase.applications → is_among (slice_index_or phase.applications k []) apps ≡ true)
    → committed_objects limits apps phase.objects ≤ 256 → IsStrictlySortedBy name_cmp (keys_of phase.objects)
    → IsLegalFrom tampered (opening phase) records → AreWithin limits (opening phase) records
    → IsIsolated limits tampered app (opening phase) (opening (record phase { objects = objects_of app phase.objects })) records

-- In a legal history whose calls were each within their quota each event that raises a number of an application leaves it within its quota.
abbrev pub EventsStayWithin : Type 0 → Type 0
EventsStayWithin Root =
    (limits : Limits) (tampered : List ℕ) (phase : PhaseOpening) (records : List (Record Root))
    → IsLegalFrom tampered (opening phase) records → AreWithin limits (opening phase) records → StayWithinEach limits (opening phase) records

-- A forecast tells whether the call is beyond its application's limit.
abbrev pub ForecastsTellBeyond : Type 0
ForecastsTellBeyond =
    (limits : Limits) (s : MachineState) (i : ℕ) (call : Call) (forecast : Forecast) → IsForecastOf s i call forecast
    → tells_beyond (limits (session_at s i).application) forecast ≡ is_beyond limits s i call

-- Where each session's calls are within their limits, all are.
abbrev pub SessionsWithinAreWithin : Type 0 → Type 0
SessionsWithinAreWithin Root =
    (limits : Limits) (s : ReplayState) (records : List (Record Root)) → ((session : ℕ) → AreOwnWithin session limits s records) → AreWithin limits s records

-- A session without a call in the records has none beyond its limit.
abbrev pub QuietSessionsAreWithin : Type 0 → Type 0
QuietSessionsAreWithin Root =
    (session : ℕ) (limits : Limits) (s : ReplayState) (records : List (Record Root)) → count_of session (events_of records) ≡ 0 → AreOwnWithin session limits s records

-- What is within before and behind a place is within.
abbrev pub OwnCallsJoin : Type 0 → Type 0
OwnCallsJoin Root =
    (session : ℕ) (limits : Limits) (s : ReplayState) (front back : List (Record Root)) → AreOwnWithin session limits s front → AreOwnWithin session limits (replay s front) back
    → AreOwnWithin session limits s (front ++ back)

-- A call that may not grow an object, and makes none, is beyond no limit.
abbrev pub OtherCallsAreWithin : Type 0
OtherCallsAreWithin = (limits : Limits) (s : MachineState) (i : ℕ) (call : Call) → HaveOwnHandles s → may_grow call ≡ false → is_beyond limits s i call ≡ false

-- A misuse is beyond no limit. A call that was not done for a device was within, as far as limits ask.
abbrev pub UndoneCallsAreWithin : Type 0
UndoneCallsAreWithin =
    (limits : Limits) (tampered : List ℕ) (s : ReplayState) (session number : ℕ) (call : Call) (reply : Reply) (file : Option ℕ) → is_early reply ≡ true
    → IsLegalEvent tampered s (CallEvent session number call reply Unchanged) file → IsWithin limits s (CallEvent session number call reply Unchanged) file

-- What a call of an application would leave is told by its part of the state.
abbrev pub PartsTellBeyond : Type 0
PartsTellBeyond =
    (limits : Limits) (s t : MachineState) (i : ℕ) (call : Call) → i < length s.sessions → i < length t.sessions → HaveOwnHandles s → HaveOwnHandles t
    → IsStrictlySortedBy name_cmp (keys_of s.objects) → IsStrictlySortedBy name_cmp (keys_of t.objects) → (session_at s i).application ≡ (session_at t i).application
    → part_of (session_at s i).application s ≡ part_of (session_at s i).application t → is_beyond limits s i call ≡ is_beyond limits t i call

-- Applications that are told each once are distinct, and each is among them.
pub record DistinctAppsAreApart : Type 0 where
  pub apart : (apps : List (List ℕ)) → AreDistinctApps (distinct_apps apps)
  pub among : (apps : List (List ℕ)) (k : ℕ) → k < length apps → is_among (slice_index_or apps k []) (distinct_apps apps) ≡ true

-- What is committed is all objects, and what each application may have beyond what it has.
abbrev pub CommitmentsAreSums : Type 0
CommitmentsAreSums =
    (limits : Limits) (apps : List (List ℕ)) (objects : ObjectMap) → AreDistinctApps apps
    → committed_objects limits apps objects ≡ length objects + sum_by (unclaimed_of limits objects) apps
