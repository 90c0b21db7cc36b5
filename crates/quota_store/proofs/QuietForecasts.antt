-- While the sessions of an application are quiet, nothing of its part of the state changes.
use Rattle.std.proofs.Common.{◌≡◌, ◌==◌, ◌⊎◌, ◌<◌, ◌≤◌, ℕ, Bool, true, false, cond, List, [], ◌∷◌, ◌++◌, length, refl, sym, ap, ◌∙◌, subst, inl, inr, ⊎_elim, Option, Some, None, true≢false, find, slice_index_or, arith}
use Rattle.std.proofs.lemmas.Bool.Decides.{nat_tests}
use Rattle.std.specs.Prelude.{nat_lt}
use Rattle.std.specs.List.{list_any}
use Rattle.std.specs.List.Sorted.{IsStrictlySortedBy}
use Rattle.std.specs.Map.{keys_of}
use Rattle.std.specs.Ordering.{is_eq}
use Rattle.store_model.specs.Name.{name_cmp}
use Rattle.tee_types.specs.Identifier.{bytes_cmp}
use Rattle.tee_types.specs.declared.call.Call.{Call}
use Rattle.tee_types.specs.declared.reply.Reply.{Reply}
use Rattle.store_model.specs.declared.event.Event.{Event}
use Rattle.store_model.specs.declared.event.Event.TheVariants.{Call as CallEvent, Landed}
use Rattle.store_model.specs.declared.event.Mark.{Mark}
use Rattle.store_model.specs.declared.event.Mark.TheVariants.{Unchanged, Made, Doubtful}
use Rattle.store_model.specs.History.{count_of, numbers_of}
use Rattle.store_model.specs.Machine.{MachineState, applications, session_at}
use Rattle.store_model.specs.Record.{events_of, file_of}
use Rattle.store_model.specs.Doubt.{Doubt}
use Rattle.store_model.specs.ReplayState.{ReplayState, keeps_doubt, replay, replay_after, replay_after_call, replay_landed, state_unless_undone}
use Rattle.store_model.proofs.Sessions.{replay-append}
use Rattle.app_totals.specs.OwnHandles.{HaveOwnHandles, KeepsOwnHandles}
use Rattle.app_totals.proofs.ReplayedHandles.{kept_event, new_own, replays_keep_own_handles}
use Rattle.app_quota.specs.Isolation.{AreOfOthers, IsOfOthers, IsProper, is_doubt_of}
use Rattle.app_quota.specs.Limits.{Limits, is_beyond}
use Rattle.app_quota.specs.Parts.{is_session_of, part_of}
use Rattle.app_quota.proofs.QuietRecords.{count_apps, proper_call, proper_landed, quiet_records_stay_apart, same_count}
use Rattle.app_quota.proofs.SessionLimits.{parts_tell_beyond}
use Rattle.history_seats.specs.Records.{HistoryRecord, is_event_of}
use Rattle.history_seats.specs.Settling.{IsOpenDoubt, is_landing, settles, settling}
use Rattle.history_seats.proofs.OpenDoubts.{replayed-open}
use Rattle.history_seats.proofs.Givens.{doubt-stays}
use Rattle.core_laws.specs.Stores.{Store, replay_at, start_under}
use Rattle.core_laws.specs.TamperScenarios.{TamperScenario}
use Rattle.core_laws.proofs.Rising.{replays_rise}
use Rattle.shared_store.specs.Kept.{AreOfSessions}
use Rattle.shared_store.proofs.QuotaCallers.{app_of, new-apps}
use Rattle.quota_store.specs.Halves.{app_at}
use Rattle.quota_store.specs.QuietForecasts.{AreQuiet, QuietForecastsHold}

-- an event of one of the first so many sessions
abbrev IsDeclared : ℕ → Event → Type 0
IsDeclared count (CallEvent session number call reply mark) = session < count
IsDeclared count (Landed commit) = Unit {0}

declared-head : (count : ℕ) (e : Event) (events : List Event) → AreOfSessions count (e ∷ events) → IsDeclared count e × AreOfSessions count events
declared-head count (CallEvent session number call reply mark) events are = are
declared-head count (Landed commit) events are = (tt, are)

-- no event of a session is among them
quiet-head : (session : ℕ) (e : Event) (events : List Event) → count_of session (e ∷ events) ≡ 0 → (is_event_of session e ≡ false) × (count_of session events ≡ 0)
quiet-head session (Landed commit) events none = (refl, none)
quiet-head session (CallEvent caller number call reply mark) events none = (elim (caller == session) as (λ b. (caller == session) ≡ b → length (cond b (number ∷ numbers_of session events) (numbers_of session events)) ≡ 0
    → ((caller == session) ≡ false) × (count_of session events ≡ 0)) [
      | true ↦ λ same z. absurd (cc (z))
      | false ↦ λ other z. (other, z)
    ]) refl none

own-number : (n : ℕ) → (n == n) ≡ true
own-number n = grind (arith, nat_tests)

module _ (apps : List (List ℕ)) (app : List ℕ) where
  abbrev is_own : ℕ → Bool
  is_own session = is_eq (bytes_cmp app (slice_index_or apps session []))

  -- the sessions of a state are of these applications
  own-at : (s : MachineState) → applications s.sessions ≡ apps → (session : ℕ) → is_session_of app (session_at s session) ≡ is_own session
  own-at s are session = ap (λ (a : List ℕ). is_eq (bytes_cmp app a)) (sym (app_of s session) ∙ ap (λ (l : List (List ℕ)). slice_index_or l session []) are)

  doubt-at : (s t : MachineState) → applications s.sessions ≡ apps → applications t.sessions ≡ apps → (o : Option Doubt) → is_doubt_of app t o ≡ is_doubt_of app s o
  doubt-at s t s_are t_are None = refl
  doubt-at s t s_are t_are (Some d) = own-at t t_are d.session ∙ sym (own-at s s_are d.session)

  -- no doubt of the application lands among these
  abbrev NotDue : ReplayState → List Event → Type 0
  NotDue s events = (is_doubt_of app s.state s.doubt ≡ false) ⊎ ((event : Event) → find settles events ≡ Some event → is_landing event ≡ false)

  abbrev AreNone : List Event → Type 0
  AreNone events = (session : ℕ) → session < length apps → is_own session ≡ true → count_of session events ≡ 0

  -- an event of another application
  unchanged-due : (s : ReplayState) (session : ℕ) (call : Call) (reply : Reply) (file : Option ℕ) (events : List Event) → applications s.state.sessions ≡ apps
      → applications (state_unless_undone s.state session call reply).sessions ≡ apps → NotDue s events → NotDue (replay_after_call s session call reply Unchanged file) events
  unchanged-due s session call reply file events are after due = elim (keeps_doubt reply) as (λ b. (is_doubt_of app (state_unless_undone s.state session call reply) (elim b [ true ↦ s.doubt | false ↦ None ]) ≡ false) ⊎ ((event : Event) → find settles events ≡ Some event → is_landing event ≡ false)) [
    | true ↦ ⊎_elim (λ none. inl (doubt-at s.state (state_unless_undone s.state session call reply) are after s.doubt ∙ none)) (λ first. inr first) due
    | false ↦ inl refl
  ]

  others-call : (s : ReplayState) (session number : ℕ) (call : Call) (reply : Reply) (mark : Mark) (file : Option ℕ) (events : List Event) → HaveOwnHandles s.state → applications s.state.sessions ≡ apps
      → is_own session ≡ false → NotDue s (CallEvent session number call reply mark ∷ events) → NotDue (replay_after_call s session call reply mark file) events
  others-call s session number call reply Unchanged file events handles are other due =
      unchanged-due s session call reply file events are ((kept_event (CallEvent session number call reply Unchanged) file s handles).same ∙ are) due
  others-call s session number call reply (Made commit) file events handles are other due = inl refl
  others-call s session number call reply (Doubtful commit) file events handles are other due = inl (own-at s.state are session ∙ other)

  others-landed : (s : ReplayState) (o : Option Doubt) (events : List Event) → s.doubt ≡ o → NotDue (replay_landed s o) events
  others-landed s None events is = inl (ap (is_doubt_of app s.state) is)
  others-landed s (Some d) events is = inl refl

  step : (s : ReplayState) (e : Event) (file : Option ℕ) (events : List Event) → IsProper s → applications s.state.sessions ≡ apps → length s.state.sessions ≡ length apps → IsDeclared (length apps) e → AreNone (e ∷ events) → NotDue s (e ∷ events)
      → IsOfOthers app s e × (IsProper (replay_after s e file) × NotDue (replay_after s e file) events)
  step s (CallEvent session number call reply mark) file events proper are many declared none due =
      let here : session < length s.state.sessions = subst (λ (n : ℕ). session < n) (sym many) declared in
      let other : is_own session ≡ false = not-own (is_own session) refl in
      ((here, own-at s.state are session ∙ other), (proper_call s session call reply mark file here proper, others-call s session number call reply mark file events proper.handles are other due))
    where
      not-own : (b : Bool) → is_own session ≡ b → b ≡ false
      not-own false is = refl
      not-own true is = absurd (true≢false (sym (own-number session) ∙ (quiet-head session (CallEvent session number call reply mark) events (none session declared is)).0))
  step s (Landed commit) file events proper are many declared none due = (
    ⊎_elim (λ other. other) (λ first. absurd (true≢false (first (Landed commit) refl))) due,
    (proper_landed s s.doubt proper, others-landed s s.doubt events refl),
  )

  pub others : (s : ReplayState) (records : List HistoryRecord) → IsProper s → applications s.state.sessions ≡ apps → length s.state.sessions ≡ length apps → AreOfSessions (length apps) (events_of records) → AreNone (events_of records)
      → NotDue s (events_of records) → AreOfOthers app s records
  others s [] proper are many declared none due = tt
  others s (r ∷ records) proper are many declared none due =
      let head = declared-head (length apps) r.event (events_of records) declared in
      let one = step s r.event (file_of r) (events_of records) proper are many head.0 none due in
      let kept : KeepsOwnHandles s.state (replay_after s r.event (file_of r)).state = kept_event r.event (file_of r) s proper.handles in (
        one.0,
        others (replay_after s r.event (file_of r)) records one.1.0 (kept.same ∙ are) (same_count s.state (replay_after s r.event (file_of r)).state kept ∙ many) head.1
            (λ session lt own. (quiet-head session r.event (events_of records) (none session lt own)).1) one.1.1,
      )

pub of-first : (count : ℕ) (first then : List HistoryRecord) → AreOfSessions count (events_of (first ++ then)) → AreOfSessions count (events_of first)
of-first count [] then are = tt
of-first count (r ∷ first) then are = join r.event (events_of first) (declared-head count r.event (events_of (first ++ then)) are).0 (of-first count first then (declared-head count r.event (events_of (first ++ then)) are).1)
  where
    join : (e : Event) (events : List Event) → IsDeclared count e → AreOfSessions count events → AreOfSessions count (e ∷ events)
    join (CallEvent session number call reply mark) events one rest = (one, rest)
    join (Landed commit) events one rest = rest

of-then : (count : ℕ) (first then : List HistoryRecord) → AreOfSessions count (events_of (first ++ then)) → AreOfSessions count (events_of then)
of-then count [] then are = are
of-then count (r ∷ first) then are = of-then count first then (declared-head count r.event (events_of (first ++ then)) are).1

proper-event : (e : Event) (file : Option ℕ) (s : ReplayState) → IsDeclared (length s.state.sessions) e → IsProper s → IsProper (replay_after s e file)
proper-event (CallEvent session number call reply mark) file s declared proper = proper_call s session call reply mark file declared proper
proper-event (Landed commit) file s declared proper = proper_landed s s.doubt proper

proper-replay : (count : ℕ) (s : ReplayState) (records : List HistoryRecord) → length s.state.sessions ≡ count → AreOfSessions count (events_of records) → IsProper s → IsProper (replay s records)
proper-replay count s [] many are proper = proper
proper-replay count s (r ∷ records) many are proper =
    let head = declared-head count r.event (events_of records) are in
    proper-replay count (replay_after s r.event (file_of r)) records (same_count s.state (replay_after s r.event (file_of r)).state (kept_event r.event (file_of r) s proper.handles) ∙ many) head.1
    (proper-event r.event (file_of r) s (subst (λ (n : ℕ). IsDeclared n r.event) (sym many) head.0) proper)

none-any : (records : List HistoryRecord) → list_any (λ (r : HistoryRecord). false) records ≡ false
none-any [] = refl
none-any (r ∷ records) = none-any records

first-settles : (first then : List HistoryRecord) (event : Event) → settling first ≡ Some event → settling (first ++ then) ≡ Some event
first-settles [] then event is = absurd (cc (is))
first-settles (r ∷ first) then event is = one (settles r.event) is (first-settles first then event)
  where
    one : (b : Bool) → cond b (Some r.event) (settling first) ≡ Some event → (settling first ≡ Some event → settling (first ++ then) ≡ Some event) → cond b (Some r.event) (settling (first ++ then)) ≡ Some event
    one true h rest = h
    one false h rest = rest h

module _ (store : Store) (scenario : TamperScenario) (seen between rest : List HistoryRecord) (decided session : ℕ) (lt : session < length store.mounted.applications)
    (q : AreQuiet store (app_at store session) seen decided between rest) where
  abbrev apps : List (List ℕ)
  apps = store.mounted.applications

  abbrev app : List ℕ
  app = app_at store session

  abbrev s1 : ReplayState
  s1 = replay_at store scenario seen

  abbrev s2 : ReplayState
  s2 = replay s1 between

  kept1 : KeepsOwnHandles (start_under store scenario).state s1.state
  kept1 = replays_keep_own_handles (start_under store scenario) seen (new_own apps)

  are1 : applications s1.state.sessions ≡ apps
  are1 = kept1.same ∙ new-apps apps

  many1 : length s1.state.sessions ≡ length apps
  many1 = sym (count_apps s1.state.sessions) ∙ ap length are1

  kept2 : KeepsOwnHandles s1.state s2.state
  kept2 = replays_keep_own_handles s1 between kept1.handles

  are2 : applications s2.state.sessions ≡ apps
  are2 = kept2.same ∙ are1

  many2 : length s2.state.sessions ≡ length apps
  many2 = sym (count_apps s2.state.sessions) ∙ ap length are2

  proper1 : IsProper s1
  proper1 =
      proper-replay (length apps) (start_under store scenario) seen (sym (count_apps (start_under store scenario).state.sessions) ∙ ap length (new-apps apps)) (of-first (length apps) seen between q.sessions)
      (record { handles = new_own apps; doubt = λ d e. absurd (cc (e)) })

  -- the doubt that is open where the replay stands does not land
  unlanded : (d : Doubt) → s1.doubt ≡ Some d → (event : Event) → settling between ≡ Some event → is_landing event ≡ false
  unlanded d is event first =
      let open_doubt : IsOpenDoubt d.commit 0 seen = replayed-open (start_under store scenario) seen d refl is in
      (elim (nat_lt (length open_doubt.front) decided) as (λ b. nat_lt (length open_doubt.front) decided ≡ b → is_landing event ≡ false) [
        | true ↦ λ below.
            doubt-stays decided d.commit (λ (r : HistoryRecord). false) seen (seen ++ (between ++ rest)) (record { rest = between ++ rest; is = refl; lacks = none-any (between ++ rest) }) open_doubt q.later q.within
            (is-below (length open_doubt.front) decided below) event (first-settles between rest event first)
        | false ↦ λ behind.
            absurd (q.calm d.commit (record {
              front = open_doubt.front;
              doubted = open_doubt.doubted;
              back = open_doubt.back;
              is = open_doubt.is;
              marked = open_doubt.marked;
              last = open_doubt.last;
              late = not-below (length open_doubt.front) decided behind;
            }))
      ]) refl
    where
      is-below : (a b : ℕ) → nat_lt a b ≡ true → a < b
      is-below a b is = grind (arith, nat_tests)

      not-below : (a b : ℕ) → nat_lt a b ≡ false → b ≤ a
      not-below a b is = grind (arith, nat_tests)

  due : (o : Option Doubt) → s1.doubt ≡ o → NotDue apps app s1 (events_of between)
  due None is = inl (ap (is_doubt_of app s1.state) is)
  due (Some d) is = inr (λ event first. unlanded d is event first)

  parts : part_of app s2.state ≡ part_of app s1.state
  parts = quiet_records_stay_apart app s1 between proper1 (others apps app s1 between proper1 are1 many1 (of-then (length apps) seen between q.sessions) q.none (due s1.doubt refl))

  app1 : app ≡ (session_at s1.state session).application
  app1 = ap (λ (l : List (List ℕ)). slice_index_or l session []) (sym are1) ∙ app_of s1.state session

  app2 : app ≡ (session_at s2.state session).application
  app2 = ap (λ (l : List (List ℕ)). slice_index_or l session []) (sym are2) ∙ app_of s2.state session

  pub holds_on : (limits : Limits) (call : Call) → IsStrictlySortedBy name_cmp (keys_of s1.state.objects) → is_beyond limits (replay_at store scenario (seen ++ between)).state session call ≡ is_beyond limits s1.state session call
  holds_on limits call rising =
      ap (λ (x : ReplayState). is_beyond limits x.state session call) (replay-append (start_under store scenario) seen between)
      ∙ parts_tell_beyond limits s2.state s1.state session call (subst (λ (n : ℕ). session < n) (sym many2) lt) (subst (λ (n : ℕ). session < n) (sym many1) lt) kept2.handles kept1.handles
      (replays_rise s1 between rising) rising (sym app2 ∙ app1) (subst (λ (a : List ℕ). part_of a s2.state ≡ part_of a s1.state) app2 parts)

pub quiet_forecasts_hold : QuietForecastsHold
quiet_forecasts_hold store scenario limits seen between rest decided session call rising lt q = holds_on store scenario seen between rest decided session lt q limits call rising
