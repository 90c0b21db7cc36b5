-- The calls of a session stay within the limit of its application.
use Rattle.std.proofs.Common.{◌≡◌, ◌∙◌, ℕ, true, false, List, [], ◌∷◌, ◌++◌, map, refl, sym, ap, subst, inl, inr, slice_index_or}
use Rattle.std.proofs.Math.ListN.{get_or-map}
use Rattle.tee_types.specs.declared.call.Call.{Call}
use Rattle.tee_types.specs.declared.reply.Reply.{Reply}
use Rattle.tee_types.specs.declared.reply.Reply.TheVariants.{Misuse, NotAvailable}
use Rattle.app_totals.specs.declared.numbers.Forecast.{Forecast}
use Rattle.app_totals.specs.declared.numbers.Totals.{Totals}
use Rattle.app_totals.specs.Meant.{may_grow}
use Rattle.app_totals.proofs.ReplayedHandles.{new_own, replays_keep_own_handles}
use Rattle.app_quota.specs.Isolation.{AreOwnWithin, IsOwnWithin, IsWithin}
use Rattle.app_quota.specs.Limits.{Limits, is_beyond, is_early, tells_beyond}
use Rattle.app_quota.proofs.Raises.{forecasts_tell_beyond}
use Rattle.app_quota.proofs.SessionLimits.{other_calls_are_within, own_calls_join, quiet_sessions_are_within, undone_calls_are_within}
use Rattle.call_steps.specs.CallerSessions.{CallerSession, IsCallerOf, session_value}
use Rattle.call_steps.specs.Foreseen.{IsEarly}
use Rattle.call_steps.specs.Forecasts.{IsForecastAt}
use Rattle.call_steps.specs.SessionEvents.{Appends, IsWaiting}
use Rattle.call_steps.specs.declared.PlacedReply.{PlacedReply}
use Rattle.core_laws.specs.Answered.{AreAnswered, IsAnsweredAt}
use Rattle.core_laws.specs.Given.{DiffersInBytes}
use Rattle.core_laws.specs.Sessions.{Extends}
use Rattle.core_laws.specs.Shown.{IsClashedAt, meant_at}
use Rattle.core_laws.specs.Stores.{Store, replay_at, start_under}
use Rattle.core_laws.specs.TamperScenarios.{TamperScenario}
use Rattle.core_laws.proofs.Answers.{answered-front, answered-last}
use Rattle.core_laws.proofs.Mending.{some_same}
use Rattle.history_seats.specs.Records.{HistoryRecord}
use Rattle.history_seats.specs.Views.{PassView, Sight}
use Rattle.store_model.specs.declared.event.Event.{Event}
use Rattle.store_model.specs.declared.event.Event.TheVariants.{Call as CallEvent}
use Rattle.store_model.specs.declared.event.Mark.{Mark}
use Rattle.store_model.specs.declared.event.Mark.TheVariants.{Unchanged}
use Rattle.store_model.specs.Legal.{IsLegalEvent}
use Rattle.store_model.specs.Machine.{MachineState, Session, applications, new_session, session_at}
use Rattle.store_model.specs.Record.{file_of}
use Rattle.serial_calls.specs.QuotaCallers.{HasKeptLimits, KeepsLimits}

-- THE APPLICATION OF A SESSION
pub app_of : (s : MachineState) (i : ℕ) → slice_index_or (applications s.sessions) i [] ≡ (session_at s i).application
app_of s i = get_or-map (λ (x : Session). x.application) s.sessions i (new_session [])

pub new-apps : (apps : List (List ℕ)) → applications (map new_session apps) ≡ apps
new-apps [] = refl
new-apps (app ∷ apps) = ap (λ (l : List (List ℕ)). app ∷ l) (new-apps apps)

-- a session of the replay is of its application
pub app-there : (store : Store) (scenario : TamperScenario) (records : List HistoryRecord) (session : ℕ)
    → (session_at (replay_at store scenario records).state session).application ≡ slice_index_or (store.mounted).applications session []
app-there store scenario records session =
    sym (app_of (replay_at store scenario records).state session)
    ∙ ap (λ (l : List (List ℕ)). slice_index_or l session [])
    ((replays_keep_own_handles (start_under store scenario) records (new_own (store.mounted).applications)).same ∙ new-apps (store.mounted).applications)

-- A VIEW THAT GOES ON
module _ {E : Type 0} (store : Store) (was now : CallerSession E) (limits : Limits) (kept : HasKeptLimits store limits was) where
  -- a session that has no event more
  waiting-kept : IsWaiting store was now → HasKeptLimits store limits now
  waiting-kept w pass is scenario answered =
      let c = w.goes_on.continues in
      let same : c.now ≡ pass = some_same c.now pass (sym c.has ∙ is) in
      let whole : pass.knows.seen ≡ c.was.knows.seen ++ c.between = ap (λ (p : Sight PassView). p.knows.seen) (sym same) ∙ sym c.is in
      let before : AreAnswered store scenario c.was.knows.seen = answered-front store scenario c.was.knows.seen c.between (subst (AreAnswered store scenario) whole answered) in
      subst (λ (x : ℕ × List HistoryRecord). AreOwnWithin x.0 limits (start_under store scenario) x.1) (λ i. (sym w.number i, sym whole i))
      (own_calls_join was.number limits (start_under store scenario) c.was.knows.seen c.between (kept c.was c.had scenario before)
      (quiet_sessions_are_within was.number limits _ c.between c.none))

  -- a call whose event is within
  module _ (event : Event) (place : ℕ) (e : Extends store (session_value was) (session_value now) event place)
      (fine : (scenario : TamperScenario) → AreAnswered store scenario ((e.old.knows.seen ++ e.between) ++ e.last ∷ [])
      → IsOwnWithin was.number limits (replay_at store scenario (e.old.knows.seen ++ e.between)) e.last.event (file_of e.last)) where
    extended-kept : HasKeptLimits store limits now
    extended-kept pass is scenario answered =
        let same : e.new ≡ pass = some_same e.new pass (sym e.is ∙ is) in
        let front : List HistoryRecord = e.old.knows.seen ++ e.between in
        let whole : pass.knows.seen ≡ front ++ e.last ∷ [] = ap (λ (p : Sight PassView). p.knows.seen) (sym same) ∙ e.extends in
        let all : AreAnswered store scenario (front ++ e.last ∷ []) = subst (AreAnswered store scenario) whole answered in
        let before : AreAnswered store scenario e.old.knows.seen = answered-front store scenario e.old.knows.seen e.between (answered-front store scenario front (e.last ∷ []) all) in
        subst (λ (x : ℕ × List HistoryRecord). AreOwnWithin x.0 limits (start_under store scenario) x.1) (λ i. (sym e.number i, sym whole i))
        (own_calls_join was.number limits (start_under store scenario) front (e.last ∷ [])
        (own_calls_join was.number limits (start_under store scenario) e.old.knows.seen e.between (kept e.old e.was scenario before) (quiet_sessions_are_within was.number limits _ e.between e.none_between))
        (fine scenario all, tt))

pub waiting-limits : {E : Type 0} (store : Store) (limit : Totals) (was now : CallerSession E) → IsWaiting store was now → KeepsLimits store limit was now
waiting-limits store limit was now w limits is kept = waiting-kept store was now limits kept w

reply_same : (a b : ℕ) (c : Call) (r : Reply) (m : Mark) (a' b' : ℕ) (c' : Call) (r' : Reply) (m' : Mark) → CallEvent a b c r m ≡ CallEvent a' b' c' r' m' → r ≡ r'
reply_same a b c r m a' b' c' r' m' e = cc (e)

pub early_is : (reply : Reply) → IsEarly reply → is_early reply ≡ true
early_is (Misuse reason) early = refl
early_is (NotAvailable cause) early = refl
early_is reply early = absurd early

undiffering : (reply other : Reply) → is_early reply ≡ true → DiffersInBytes reply other → ⊥
undiffering (Misuse reason) other early differs = differs
undiffering (NotAvailable cause) other early differs = differs
undiffering reply other early differs = absurd (cc (early))

-- ONE EVENT MORE
module _ {E : Type 0} (store : Store) (limit : Totals) (was now : CallerSession E) (call : Call) (answer : PlacedReply) (mark : Mark) (a : Appends store was now call answer mark) where
  abbrev reply : Reply
  reply = answer.reply

  abbrev e : Extends store (session_value was) (session_value now) (CallEvent was.number was.made call reply mark) answer.place
  e = a.extends

  abbrev front : List HistoryRecord
  front = e.old.knows.seen ++ e.between

  answered-kept : (limits : Limits)
      → ((scenario : TamperScenario) → AreAnswered store scenario (front ++ e.last ∷ []) → IsWithin limits (replay_at store scenario front) (CallEvent was.number was.made call reply mark) (file_of e.last))
      → HasKeptLimits store limits was → HasKeptLimits store limits now
  answered-kept limits fine kept =
      extended-kept store was now limits kept (CallEvent was.number was.made call reply mark) answer.place e
      (λ scenario answered. subst (λ (event : Event). IsOwnWithin was.number limits (replay_at store scenario front) event (file_of e.last)) (sym e.event_is) (λ same. fine scenario answered))

  -- of a call that may not grow an object
  pub other-limits : may_grow call ≡ false → KeepsLimits store limit was now
  other-limits other limits is =
      answered-kept limits (λ scenario answered.
      inl (other_calls_are_within limits (replay_at store scenario front).state was.number call (replays_keep_own_handles (start_under store scenario) front (new_own (store.mounted).applications)).handles other))

  -- of a call that was answered before what it would leave was asked
  module _ (early : is_early reply ≡ true) (unchanged : mark ≡ Unchanged) where
    event_is : e.last.event ≡ CallEvent was.number was.made call reply Unchanged
    event_is = e.event_is ∙ ap (λ (m : Mark). CallEvent was.number was.made call reply m) unchanged

    unclashed : (scenario : TamperScenario) → IsClashedAt store scenario front e.last → ⊥
    unclashed scenario clash =
        let given = clash.told.given in
        let same : given.reply ≡ reply = reply_same _ _ _ _ _ _ _ _ _ _ (sym given.is ∙ e.event_is) in
        undiffering given.reply (meant_at given) (ap is_early same ∙ early) clash.alike

    early-within : (limits : Limits) (scenario : TamperScenario) → IsAnsweredAt store scenario front e.last
        → IsWithin limits (replay_at store scenario front) (CallEvent was.number was.made call reply Unchanged) (file_of e.last)
    early-within limits scenario (inl legal) =
        undone_calls_are_within limits scenario.tampered (replay_at store scenario front) was.number was.made call reply (file_of e.last) early
        (subst (λ (event : Event). IsLegalEvent scenario.tampered (replay_at store scenario front) event (file_of e.last)) event_is legal.legal)
    early-within limits scenario (inr clash) = absurd (unclashed scenario clash)

    pub early-limits : KeepsLimits store limit was now
    early-limits limits is =
        answered-kept limits (λ scenario answered.
        subst (λ (m : Mark). IsWithin limits (replay_at store scenario front) (CallEvent was.number was.made call reply m) (file_of e.last)) (sym unchanged)
        (early-within limits scenario (answered-last store scenario front e.last answered)))

  -- of a call that stays within, where its event stands
  pub within-limits : ((limits : Limits) → limits was.state.application ≡ limit → (scenario : TamperScenario) → AreAnswered store scenario front
      → is_beyond limits (replay_at store scenario front).state was.number call ≡ false) → KeepsLimits store limit was now
  within-limits within limits is = answered-kept limits (λ scenario answered. inl (within limits is scenario (answered-front store scenario front (e.last ∷ []) answered)))

-- A FORECAST
-- what it tells where these records stand
module _ {E : Type 0} (store : Store) (limit : Totals) (was shown : CallerSession E) (caller : IsCallerOf store was) (number : shown.number ≡ was.number) (call : Call) (forecast : Forecast) (all : List HistoryRecord)
    (told : IsForecastAt store all shown.number call forecast) where
  pub forecast-is : (limits : Limits) → limits was.state.application ≡ limit → (scenario : TamperScenario) → AreAnswered store scenario all
      → is_beyond limits (replay_at store scenario all).state shown.number call ≡ tells_beyond limit forecast
  forecast-is limits is scenario answered =
      sym (forecasts_tell_beyond limits (replay_at store scenario all).state shown.number call forecast (told scenario answered))
      ∙ ap (λ (t : Totals). tells_beyond t forecast)
      (ap limits (app-there store scenario all shown.number ∙ ap (λ (n : ℕ). slice_index_or (store.mounted).applications n []) number ∙ sym caller.session.application) ∙ is)
