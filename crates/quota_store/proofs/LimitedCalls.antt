-- The calls of a session stay within its limit.
use Rattle.std.proofs.Common.{◌≡◌, ◌==◌, ◌<◌, ◌+◌, ℕ, true, false, List, [], ◌∷◌, ◌++◌, length, refl, sym, ap, ◌∙◌, subst, append_assoc, arith}
use Rattle.std.proofs.lemmas.Bool.Decides.{nat_tests}
use Rattle.std.specs.Ordering.{is_eq}
use Rattle.tee_types.specs.Identifier.{bytes_cmp}
use Rattle.tee_types.specs.declared.call.Call.{Call}
use Rattle.store_model.specs.History.{count_of}
use Rattle.store_model.specs.Record.{events_of}
use Rattle.store_model.specs.declared.event.Mark.{Mark}
use Rattle.app_totals.specs.declared.numbers.Forecast.{Forecast}
use Rattle.app_totals.specs.declared.numbers.Totals.{Totals}
use Rattle.app_quota.specs.Limits.{Limits, is_beyond, tells_beyond}
use Rattle.history_seats.specs.Records.{HistoryRecord}
use Rattle.history_seats.specs.Settling.{IsDecidedBelow}
use Rattle.history_seats.specs.Views.{GateView, PassView, Sight}
use Rattle.history_seats.proofs.Numbering.{count-append}
use Rattle.core_laws.specs.Answered.{AreAnswered}
use Rattle.core_laws.specs.Stores.{Store, replay_at}
use Rattle.core_laws.specs.TamperScenarios.{TamperScenario}
use Rattle.core_laws.proofs.Answers.{answered-front}
use Rattle.core_laws.proofs.Mending.{some_same}
use Rattle.shared_store.specs.CallerSessions.{CallerSession, IsCallerOf}
use Rattle.shared_store.specs.ForeseenCalls.{IsForeseen}
use Rattle.shared_store.specs.Kept.{AreOfSessions}
use Rattle.shared_store.specs.QuotaCallers.{KeepsLimits}
use Rattle.shared_store.specs.SessionEvents.{Appends}
use Rattle.shared_store.proofs.QuotaCallers.{forecast-is, waiting-limits, within-limits}
use Rattle.shared_store.specs.declared.PlacedReply.{PlacedReply}
use Rattle.quota_store.specs.Halves.{app_at}
use Rattle.quota_store.specs.QuietForecasts.{AreQuiet}
use Rattle.quota_store.proofs.QuietForecasts.{of-first, quiet_forecasts_hold}

-- a call that was forecast to stay within the limit, and before whose event no session of its application had another
module _ {E : Type 0} (store : Store) (limit : Totals) (was mid now : CallerSession E) (call : Call) (answer : PlacedReply) (gate : GateView) (forecast : Forecast) (caller : IsCallerOf store was)
    (f : IsForeseen store gate was mid call forecast) (within : tells_beyond limit forecast ≡ false) (mark : Mark) (a : Appends store mid now call answer mark) (all more : List HistoryRecord)
    (behind : a.extends.new.knows.seen ++ more ≡ all) (sessions : AreOfSessions (length store.mounted.applications) (events_of all))
    (others : (k : ℕ) → k < length store.mounted.applications → is_eq (bytes_cmp (app_at store mid.number) (app_at store k)) ≡ true → (k ≡ mid.number → ⊥)
    → count_of k (events_of all) ≡ count_of k (events_of gate.all)) where
  abbrev count : ℕ
  count = length store.mounted.applications

  abbrev between : List HistoryRecord
  between = a.extends.between

  abbrev last : HistoryRecord
  last = a.extends.last

  -- it is of the same application
  apps-same : mid.state.application ≡ was.state.application
  apps-same = f.waits.caller.session.application ∙ ap (app_at store) f.waits.number ∙ sym caller.session.application

  saw : a.extends.old ≡ f.sees.seat
  saw = some_same a.extends.old f.sees.seat (sym a.extends.was ∙ f.sees.is)

  seen-is : a.extends.old.knows.seen ≡ gate.all
  seen-is = ap (λ (p : Sight PassView). p.knows.seen) saw ∙ f.sees.whole

  decided-is : a.extends.old.knows.decided ≡ gate.decided
  decided-is = ap (λ (p : Sight PassView). p.knows.decided) saw ∙ f.sees.place

  new-is : a.extends.new.knows.seen ≡ gate.all ++ (between ++ last ∷ [])
  new-is = a.extends.extends ∙ ap (λ (l : List HistoryRecord). (l ++ between) ++ last ∷ []) seen-is ∙ append_assoc gate.all between (last ∷ [])

  all-is : (gate.all ++ between) ++ (last ∷ more) ≡ all
  all-is =
      append_assoc gate.all between (last ∷ more)
      ∙ sym (append_assoc gate.all (between ++ last ∷ []) more ∙ ap (λ (l : List HistoryRecord). gate.all ++ l) (append_assoc between (last ∷ []) more))
      ∙ ap (λ (l : List HistoryRecord). l ++ more) (sym new-is)
      ∙ behind

  counts : (k : ℕ) → count_of k (events_of all) ≡ count_of k (events_of gate.all) + count_of k (events_of between) + count_of k (events_of (last ∷ more))
  counts k =
      ap (λ (l : List HistoryRecord). count_of k (events_of l)) (sym all-is)
      ∙ count-append k (gate.all ++ between) (last ∷ more)
      ∙ ap (λ (n : ℕ). n + count_of k (events_of (last ∷ more))) (count-append k gate.all between)

  none : (k : ℕ) → k < count → is_eq (bytes_cmp (app_at store mid.number) (app_at store k)) ≡ true → count_of k (events_of between) ≡ 0
  none k lt own = (elim (k == mid.number) as (λ b. (k == mid.number) ≡ b → count_of k (events_of between) ≡ 0) [
    | true ↦ λ same. ap (λ (n : ℕ). count_of n (events_of between)) (equal k mid.number same) ∙ a.extends.none_between
    | false ↦ λ other. omega (arith, counts k, others k lt own (unequal k mid.number other))
  ]) refl
    where
      equal : (m n : ℕ) → (m == n) ≡ true → m ≡ n
      equal m n is = grind (arith, nat_tests)

      unequal : (m n : ℕ) → (m == n) ≡ false → m ≡ n → ⊥
      unequal m n is same = grind (arith, nat_tests)

  quiet : AreQuiet store (app_at store mid.number) gate.all gate.decided between (last ∷ [])
  quiet = record {
    sessions = of-first count (gate.all ++ between) (last ∷ more) (subst (λ (l : List HistoryRecord). AreOfSessions count (events_of l)) (sym all-is) sessions);
    none = none;
    calm = f.calm;
    within = f.within;
    later = subst (λ (x : ℕ × List HistoryRecord). IsDecidedBelow x.0 0 x.1) (λ i. (decided-is i, new-is i)) a.extends.decided;
  }

  stays : (limits : Limits) → limits was.state.application ≡ limit → (scenario : TamperScenario) → AreAnswered store scenario (gate.all ++ between)
      → is_beyond limits (replay_at store scenario (gate.all ++ between)).state mid.number call ≡ false
  stays limits is scenario answered =
      let before : AreAnswered store scenario gate.all = answered-front store scenario gate.all between answered in
      quiet_forecasts_hold store scenario limits gate.all between (last ∷ []) gate.decided mid.number call (f.rising scenario before) f.waits.caller.session.known quiet
      ∙ forecast-is store limit was mid caller f.waits.number call forecast gate.all f.told limits is scenario before
      ∙ within

  limited : KeepsLimits store limit mid now
  limited =
      within-limits store limit mid now call answer mark a
      (λ limits is scenario answered.
      subst (λ (l : List HistoryRecord). is_beyond limits (replay_at store scenario (l ++ between)).state mid.number call ≡ false) (sym seen-is)
      (stays limits (sym (ap limits apps-same) ∙ is) scenario (subst (λ (l : List HistoryRecord). AreAnswered store scenario (l ++ between)) seen-is answered)))

  pub served-within : KeepsLimits store limit was now
  served-within limits is kept = limited limits (ap limits apps-same ∙ is) (waiting-limits store limit was mid f.waits limits is kept)
