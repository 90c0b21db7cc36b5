-- What a call under a quota leaves.
use Rattle.std.proofs.Common.{◌≡◌, ◌∙◌, ◌++◌, ℕ, true, false, List, [], ◌∷◌, length, Ok, Err, Result, refl, sym, ap, subst, slice_index_or, arith, length-append}
use Rattle.std.proofs.lemmas.List.{append-nil}
use Rattle.tee_types.specs.declared.call.Call.{Call}
use Rattle.disk_model.specs.State.{FileState}
use Rattle.rpmb_card.specs.Port.{PortState}
use Rattle.app_totals.specs.declared.numbers.Forecast.{Forecast}
use Rattle.app_totals.specs.declared.numbers.Totals.{Totals}
use Rattle.app_totals.specs.Meant.{may_grow}
use Rattle.app_quota.specs.Limits.{is_beyond, tells_beyond}
use Rattle.history_seats.specs.Records.{HistoryRecord}
use Rattle.history_seats.specs.Views.{PassView, Sight}
use Rattle.core_laws.specs.Answered.{AreAnswered}
use Rattle.core_laws.specs.Stores.{Store, replay_at}
use Rattle.core_laws.proofs.Mending.{some_same}
use Rattle.call_steps.specs.CallerSessions.{CallerSession, IsCallerOf}
use Rattle.call_steps.specs.Commits.{IsCalm}
use Rattle.call_steps.specs.Forecasts.{IsForecastAt}
use Rattle.call_steps.specs.GuardedGates.{GuardedGateValue}
use Rattle.call_steps.specs.Rising.{Serving}
use Rattle.call_steps.specs.SessionEvents.{IsWaiting}
use Rattle.call_steps.specs.SlotValues.{SlotValue}
use Rattle.call_steps.specs.declared.PlacedReply.{PlacedReply}
use Rattle.serial_calls.specs.Appended.{AppendsCall}
use Rattle.serial_calls.specs.QuotaCallers.{IsRefusedRightly, KeepsLimits}
use Rattle.serial_calls.specs.ServedAnswers.{ServesCall}
use Rattle.serial_calls.specs.ServeReplay.{AnswersOrNot}
use Rattle.serial_calls.proofs.QuotaCallers.{forecast-is, other-limits, waiting-limits, within-limits}

-- A SERVED CALL, BY ITS RESULT
module _ {F R E : Type 0} (of_file : F → FileState) (of_port : R → PortState) (draws : E → ℕ) (store : Store) (old new : Serving F R E) (call : Call) where
  pub answered_told : (X Y : Type 0) (answer : PlacedReply) → ServesCall of_file of_port draws {X = X} store old new call (Ok answer) → ServesCall of_file of_port draws {X = Y} store old new call (Ok answer)
  answered_told X Y answer s = record { answers = s.answers; slots = s.slots; tagged = s.tagged; held = s.held; devices = s.devices }

  pub unanswered_told : (X Y : Type 0) (x : X) (y : Y) → ServesCall of_file of_port draws {X = X} store old new call (Err x) → ServesCall of_file of_port draws {X = Y} store old new call (Err y)
  unanswered_told X Y x y s = record { answers = s.answers; slots = s.slots; tagged = s.tagged; held = s.held; devices = s.devices }

  -- of a call that may not grow an object
  pub served-limits : (limit : Totals) → may_grow call ≡ false → (X : Type 0) (result : Result PlacedReply X) → ServesCall of_file of_port draws store old new call result → KeepsLimits store limit old.session new.session
  served-limits limit other X (Ok answer) s =
      let e = s.answers.goes_on in
      other-limits store limit old.session new.session call answer e.mark e.appends other
  served-limits limit other X (Err x) s = waiting-limits store limit old.session new.session s.answers.waits

-- A CALL THAT WAS FORECAST
module _ {F R E : Type 0} (store : Store) (limit : Totals) (was shown : CallerSession E) (mid : GuardedGateValue F R) (caller : IsCallerOf store was) (waits : IsWaiting store was shown)
    (calm : IsCalm store mid.journal.knows shown) (call : Call) (forecast : Forecast) (told : IsForecastAt store mid.journal.knows.all shown.number call forecast) where
  apps-same : shown.state.application ≡ was.state.application
  apps-same = calm.caller.session.application ∙ ap (λ (n : ℕ). slice_index_or store.mounted.applications n []) waits.number ∙ sym caller.session.application

  pub shown-limits : KeepsLimits store limit was shown
  shown-limits = waiting-limits store limit was shown waits

  -- it was told to be beyond
  pub refused-rightly : tells_beyond limit forecast ≡ true → forecast.place ≡ length mid.journal.knows.all → IsRefusedRightly store limit was shown call forecast.place
  refused-rightly beyond at limits is = record {
    pass = calm.sees.seat;
    is = calm.sees.is;
    at = at ∙ ap length (sym calm.sees.whole);
    beyond = λ scenario answered.
        subst (λ (l : List HistoryRecord). is_beyond limits (replay_at store scenario l).state shown.number call ≡ true) (sym calm.sees.whole)
        (forecast-is store limit was shown caller waits.number call forecast mid.journal.knows.all told limits is scenario
        (subst (AreAnswered store scenario) calm.sees.whole answered) ∙ beyond);
  }

  module _ (within : tells_beyond limit forecast ≡ false) (new : GuardedGateValue F R) (now : CallerSession E) where
    none-left : (l : List HistoryRecord) → length l ≡ 0 → l ≡ []
    none-left [] none = refl
    none-left (r ∷ l) none = absurd (omega (arith, none))

    -- the event stands where the forecast was made
    front-is : (answer : PlacedReply) (a : AppendsCall store mid new shown now call answer) → a.appends.extends.old.knows.seen ++ a.appends.extends.between ≡ mid.journal.knows.all
    front-is answer a =
        let e = a.appends.extends in
        let saw : e.old.knows.seen ≡ mid.journal.knows.all = ap (λ (p : Sight PassView). p.knows.seen) (some_same e.old calm.sees.seat (sym e.was ∙ calm.sees.is)) ∙ calm.sees.whole in
        ap (λ (l : List HistoryRecord). e.old.knows.seen ++ l)
        (none-left e.between (omega (arith, length-append e.old.knows.seen e.between, e.at, a.place, ap length saw)))
        ∙ append-nil e.old.knows.seen ∙ saw

    answered-limits : (answer : PlacedReply) → AppendsCall store mid new shown now call answer → KeepsLimits store limit shown now
    answered-limits answer a =
        within-limits store limit shown now call answer a.mark a.appends
        (λ limits is scenario answered.
        subst (λ (l : List HistoryRecord). is_beyond limits (replay_at store scenario l).state shown.number call ≡ false) (sym (front-is answer a))
        (forecast-is store limit was shown caller waits.number call forecast mid.journal.knows.all told limits (ap limits (sym apps-same) ∙ is) scenario
        (subst (AreAnswered store scenario) (front-is answer a) answered) ∙ within))

    pub forecast-limits : (of_file : F → FileState) (of_port : R → PortState) (draws : E → ℕ) (slots after : List SlotValue) (X : Type 0) (result : Result PlacedReply X)
        → AnswersOrNot of_file of_port draws store (record { gate = mid; slots = slots; session = shown }) (record { gate = new; slots = after; session = now }) call result → KeepsLimits store limit was now
    forecast-limits of_file of_port draws slots after X (Ok answer) a = λ limits is kept. answered-limits answer a.appends limits (ap limits apps-same ∙ is) (shown-limits limits is kept)
    forecast-limits of_file of_port draws slots after X (Err x) a = λ limits is kept. waiting-limits store limit shown now a.waits limits (ap limits apps-same ∙ is) (shown-limits limits is kept)
