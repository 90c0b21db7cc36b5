-- What holds of a whole history by what each session saw of it.
use Rattle.std.proofs.Common.{◌≡◌, ◌==◌, ◌<◌, ◌≤◌, ◌+◌, ◌∙◌, ℕ, suc, Bool, true, false, cond, List, [], ◌∷◌, ◌++◌, length, map, take, max, filter, refl, sym, ap, subst, inl, inr, arith}
use Rattle.std.specs.Prelude.{sum_by}
use Rattle.std.proofs.lemmas.Bool.Decides.{nat_tests}
use Rattle.std.proofs.lemmas.List.{take_at}
use Rattle.std.proofs.lemmas.Option.{slice_get_cases}
use Rattle.store_model.specs.declared.event.Event.{Event}
use Rattle.store_model.specs.declared.event.Event.TheVariants.{Call as CallEvent, Landed}
use Rattle.store_model.specs.declared.name.ObjectName.{ObjectName}
use Rattle.store_model.specs.Calls.{outcome_of}
use Rattle.store_model.specs.History.{count_of, numbers_of}
use Rattle.store_model.specs.Machine.{MachineState, refuse}
use Rattle.store_model.specs.Object.{Object, ObjectMap}
use Rattle.store_model.specs.Record.{events_of}
use Rattle.store_model.specs.ReplayState.{PhaseOpening, ReplayState, replay}
use Rattle.tee_types.specs.declared.call.Call.{Call}
use Rattle.tee_types.specs.declared.reply.Code.TheVariants.{NoSpace}
use Rattle.tee_types.specs.declared.reply.Reply.TheVariants.{Refused}
use Rattle.app_totals.specs.Totals.{objects_of}
use Rattle.app_quota.specs.Commitments.{committed_objects, distinct_apps, others_of}
use Rattle.app_quota.specs.Isolation.{AreOwnWithin}
use Rattle.app_quota.specs.Limits.{Limits, is_beyond, quota_reply}
use Rattle.app_quota.proofs.Bounded.{quotas_isolate}
use Rattle.app_quota.proofs.Commitments.{distinct_apps_are_apart}
use Rattle.app_quota.proofs.Raises.{events_stay_within}
use Rattle.app_quota.proofs.SessionLimits.{own_calls_join, quiet_sessions_are_within, sessions_within_are_within}
use Rattle.history_seats.specs.Records.{HistoryRecord}
use Rattle.history_seats.specs.Views.{PassView, Sight}
use Rattle.history_seats.proofs.Numbering.{count-append, count-begins}
use Rattle.core_laws.specs.Answered.{AreAnswered}
use Rattle.core_laws.specs.Stores.{Store, mounted_named, object_for, objects_under, phase_of, replay_at, start_under}
use Rattle.core_laws.specs.TamperScenarios.{TamperScenario}
use Rattle.core_laws.proofs.Answers.{answered-front}
use Rattle.core_laws.proofs.Mending.{some_same}
use Rattle.core_laws.proofs.Rising.{replay_state-rises}
use Rattle.shared_store.specs.CallerSessions.{CallerSession}
use Rattle.shared_store.specs.Kept.{AreOfSessions}
use Rattle.quota_store.specs.QuotaHistories.{HasKept, HaveKept, KeptApplicationsAreIsolated, KeptCallsAreWithin, KeptEventsStayWithin, NewSessionsHaveKept, RefusedCallsStand}

-- NO EVENT
different : (m n : ℕ) → m < n → (m == n) ≡ false
different m n lt = grind (arith, nat_tests)

-- who is none of the first so many sessions has none
uncounted : (count session : ℕ) (events : List Event) → count ≤ session → AreOfSessions count events → count_of session events ≡ 0
uncounted count session [] past are = refl
uncounted count session (CallEvent caller number call reply mark ∷ events) past are =
    ap (λ (b : Bool). length (cond b (number ∷ numbers_of session events) (numbers_of session events))) (different caller session (omega (arith, past, are.0)))
    ∙ uncounted count session events past are.1
uncounted count session (Landed commit ∷ events) past are = uncounted count session events past are

pub new_sessions_have_kept : {E : Type 0} → NewSessionsHaveKept E
new_sessions_have_kept store limits s caller none pass is scenario answered =
    let own = caller.session in
    let seen : own.pass.knows.seen ≡ pass.knows.seen = ap (λ (p : Sight PassView). p.knows.seen) (some_same own.pass pass (sym own.is ∙ is)) in
    quiet_sessions_are_within s.number limits (start_under store scenario) pass.knows.seen
    (ap (λ (l : List HistoryRecord). count_of s.number (events_of l)) (sym seen) ∙ sym own.made ∙ none)

-- EACH SESSION
module _ {E : Type 0} (store : Store) (limits : Limits) (all : List HistoryRecord) (sessions : List (CallerSession E)) (scenario : TamperScenario) (h : HaveKept store limits all sessions)
    (answered : AreAnswered store scenario all) where
  abbrev start : ReplayState
  start = start_under store scenario

  one_within : (session : ℕ) (s : CallerSession E) → HasKept store limits all s → s.number ≡ session → AreOwnWithin session limits start all
  one_within session s k number =
      let seen : List HistoryRecord = k.pass.knows.seen in
      let rest : List HistoryRecord = k.begins.rest in
      let before : AreOwnWithin s.number limits start seen = k.kept k.pass k.is scenario (answered-front store scenario seen rest (subst (AreAnswered store scenario) (sym k.begins.is) answered)) in
      let counted : count_of s.number (events_of all) ≡ count_of s.number (events_of seen) + count_of s.number (events_of rest) =
      ap (λ (l : List HistoryRecord). count_of s.number (events_of l)) (sym k.begins.is) ∙ count-append s.number seen rest in
      let none : count_of s.number (events_of rest) ≡ 0 = omega (arith, counted, count-begins s.number seen all k.begins) in
      subst (λ (x : ℕ × List HistoryRecord). AreOwnWithin x.0 limits start x.1) (λ i. (number i, k.begins.is i))
      (own_calls_join s.number limits start seen rest before (quiet_sessions_are_within s.number limits (replay start seen) rest none))

  each_within : (session : ℕ) → AreOwnWithin session limits start all
  each_within session = elim (slice_get_cases sessions session).1 [
    | inl found ↦
        one_within session found.0 (subst (HasKept store limits all) found.3 (h.each session found.0 found.1))
        (ap (λ (s : CallerSession E). s.number) (sym found.3) ∙ h.numbered session found.0 found.1)
    | inr none ↦ quiet_sessions_are_within session limits start all (uncounted (length sessions) session (events_of all) none.0 h.of_sessions)
  ]

pub kept_calls_are_within : {E : Type 0} → KeptCallsAreWithin E
kept_calls_are_within store limits all sessions scenario h answered =
    sessions_within_are_within limits (start_under store scenario) all (each_within store limits all sessions scenario h answered)

-- what a phase opens with under a tamper scenario
abbrev phase_in : Store → TamperScenario → PhaseOpening
phase_in store scenario = record (phase_of store) { objects = objects_under store scenario }

pub kept_events_stay_within : {E : Type 0} → KeptEventsStayWithin E
kept_events_stay_within store limits all sessions scenario h answered legal =
    events_stay_within limits scenario.tampered (phase_in store scenario) all legal (kept_calls_are_within store limits all sessions scenario h answered)

-- THE OBJECTS' NAMES
module _ (f : ObjectName × Object → Object) (p : ObjectName × Object → Bool) (by_name : (e : ObjectName × Object) → p (e.0, f e) ≡ p e) where
  abbrev changed : ObjectMap → ObjectMap
  changed objects = map (λ e. (e.0, f e)) objects

  longer : (x y : ObjectName × Object) (xs ys : ObjectMap) (a b : Bool) → a ≡ b → length xs ≡ length ys → length (cond a (x ∷ xs) xs) ≡ length (cond b (y ∷ ys) ys)
  longer x y xs ys a true same many = ap (λ (t : Bool). length (cond t (x ∷ xs) xs)) same ∙ ap suc many
  longer x y xs ys a false same many = ap (λ (t : Bool). length (cond t (x ∷ xs) xs)) same ∙ many

  -- objects that change are as many as before among those that a test of names passes
  pub length-changed : (objects : ObjectMap) → length (filter p (changed objects)) ≡ length (filter p objects)
  length-changed [] = refl
  length-changed (e ∷ objects) = longer (e.0, f e) e (filter p (changed objects)) (filter p objects) (p (e.0, f e)) (p e) (by_name e) (length-changed objects)

module _ (store : Store) (scenario : TamperScenario) (limits : Limits) (apps : List (List ℕ)) where
  abbrev stands : ObjectName × Object → Object
  stands e = object_for store.keys scenario (mounted_named e.0 store.mounted) e.1

  others_same : length (others_of apps (objects_under store scenario)) ≡ length (others_of apps store.objects)
  others_same = length-changed stands _ (λ e. refl) store.objects

  own_same : (app : List ℕ) → length (objects_of app (objects_under store scenario)) ≡ length (objects_of app store.objects)
  own_same app = length-changed stands _ (λ e. refl) store.objects

  pub committed_same : committed_objects limits apps (objects_under store scenario) ≡ committed_objects limits apps store.objects
  committed_same = λ i. others_same i + sum_by (λ (app : List ℕ). max (limits app).objects (own_same app i)) apps

pub kept_applications_are_isolated : {E : Type 0} → KeptApplicationsAreIsolated E
kept_applications_are_isolated store limits app all sessions scenario h answered legal rising committed =
    let apps : List (List ℕ) = distinct_apps store.mounted.applications in
    quotas_isolate limits scenario.tampered app apps (phase_in store scenario) all (distinct_apps_are_apart.apart store.mounted.applications) (distinct_apps_are_apart.among store.mounted.applications)
    (subst (λ (n : ℕ). n ≤ 256) (sym (committed_same store scenario limits apps)) committed) (replay_state-rises store scenario [] rising) legal
    (kept_calls_are_within store limits all sessions scenario h answered)

-- WHAT WAS REFUSED
refused : (limits : Limits) (s : MachineState) (session : ℕ) (call : Call) → is_beyond limits s session call ≡ true → quota_reply limits s session call ≡ Refused NoSpace
refused limits s session call beyond = ap (λ (b : Bool). (cond b (refuse s (Refused NoSpace)) (outcome_of s session call)).reply) beyond

pub refused_calls_stand : {E : Type 0} → RefusedCallsStand E
refused_calls_stand store limits s call place pass all rest scenario b is begins answered =
    let seen : List HistoryRecord = b.pass.knows.seen in
    let same : seen ≡ pass.knows.seen = ap (λ (p : Sight PassView). p.knows.seen) (some_same b.pass pass (sym b.is ∙ is)) in
    let whole : seen ++ rest ≡ all = ap (λ (l : List HistoryRecord). l ++ rest) same ∙ begins in
    let taken : take place all ≡ seen = ap (take place) (sym whole) ∙ take_at seen rest place (sym b.at) in
    let before : AreAnswered store scenario seen = answered-front store scenario seen rest (subst (AreAnswered store scenario) (sym whole) answered) in
    ap (λ (l : List HistoryRecord). quota_reply limits (replay_at store scenario l).state s.number call) taken
    ∙ refused limits (replay_at store scenario seen).state s.number call (b.beyond scenario before)
