-- What a call comes to behind the lock of its application.
use Rattle.std.proofs.Common.{◌≡◌, ◌<◌, ◌∙◌, ℕ, true, false, List, ◌++◌, length, sym, ap, subst, inl, inr, Some, Result, Ok, Err, IsErr}
use Rattle.std.specs.Prelude.{slice_set}
use Rattle.std.specs.Ordering.{is_eq}
use Rattle.std.proofs.lemmas.Bool.{cases_eq}
use Rattle.tee_types.specs.Identifier.{bytes_cmp}
use Rattle.tee_types.specs.declared.call.Call.{Call}
use Rattle.store_model.specs.History.{count_of}
use Rattle.store_model.specs.Record.{events_of}
use Rattle.app_totals.specs.declared.numbers.Totals.{Totals}
use Rattle.app_totals.specs.Meant.{may_grow}
use Rattle.app_quota.specs.Limits.{is_beyond}
use Rattle.history_seats.specs.Records.{HistoryRecord, IsUpToDate, is_of_session}
use Rattle.history_seats.specs.Rule.{PassFits}
use Rattle.history_seats.specs.Views.{GateView, PassView, Sight}
use Rattle.history_seats.proofs.Numbering.{count-begins}
use Rattle.core_laws.specs.Answered.{AreAnswered}
use Rattle.core_laws.specs.Stores.{Store, replay_at}
use Rattle.core_laws.proofs.Mending.{some_same}
use Rattle.shared_store.specs.Attempts.{IsAnswered}
use Rattle.shared_store.specs.SessionEvents.{IsWaiting}
use Rattle.shared_store.specs.ForeseenCalls.{IsAnsweredEarly}
use Rattle.shared_store.proofs.Waiting.{answers-then}
use Rattle.shared_store.specs.CallerSessions.{CallerSession, IsCallerOf}
use Rattle.shared_store.specs.QuotaCallers.{IsRefusedRightly, KeepsLimits}
use Rattle.shared_store.proofs.QuotaCallers.{early-limits, early_is, forecast-is, other-limits, waiting-limits}
use Rattle.shared_store.specs.declared.PlacedReply.{PlacedReply}
use Rattle.shared_store.specs.declared.QuotaOutcome.{QuotaOutcome}
use Rattle.shared_store.specs.declared.QuotaOutcome.TheVariants.{Answered, Refused}
use Rattle.quota_store.specs.Draws.{CarriesOutcome}
use Rattle.quota_store.specs.Halves.{AreHalves, AreOthersHere, app_at, half_shown, kept_at}
use Rattle.quota_store.specs.LockedCalls.{AreKeptAlike, CameTo, EndsLocked, IsForeseenBeyond, IsServedWithin, KeepsHalves}
use Rattle.quota_store.specs.Looks.{HasPut, HaveBeenShown}
use Rattle.quota_store.proofs.KeptHalves.{Places, halves_are_shown, halves_put, set_else, set_there, shown_some, within_some}
use Rattle.quota_store.proofs.LimitedCalls.{served-within}

-- ONE EVENT MORE
module _ {E : Type 0} (store : Store) (limit : Totals) (was now : CallerSession E) (call : Call) (answer : PlacedReply) where
  -- of a call that may not grow an object
  pub answered-other : IsAnswered store was now call answer → may_grow call ≡ false → KeepsLimits store limit was now
  answered-other a = other-limits store limit was now call answer a.mark a.appends

  -- of a call that was answered before what it would leave was asked
  pub answered-early : (gate : GateView) → IsAnsweredEarly store gate was now call answer → KeepsLimits store limit was now
  answered-early gate e =
      let a = e.answered in
      early-limits store limit was now call answer a.mark a.appends (early_is answer.reply e.early) e.unchanged

-- the session is the store's still, with its number
pub ends-caller : {E X : Type 0} (store : Store) (limit : Totals) (was now : CallerSession E) (call : Call) (outcome : Result QuotaOutcome X) → EndsLocked store limit was now call outcome
    → IsCallerOf store now × (now.number ≡ was.number)
ends-caller store limit was now call (Ok (Answered answer)) a = (a.appends.caller, a.appends.extends.number)
ends-caller store limit was now call (Ok (Refused place)) r = (r.waits.caller, r.waits.number)
ends-caller store limit was now call (Err none) w = (w.caller, w.number)

-- MEMORY RAN OUT
module _ {E X : Type 0} (store : Store) (limit : Totals) (was now : CallerSession E) (call : Call) where
  pub ends-starved : (outcome : Result QuotaOutcome X) → IsErr outcome → IsWaiting store was now → EndsLocked store limit was now call outcome
  ends-starved (Ok outcome) is waits = absurd (cc (is))
  ends-starved (Err none) is waits = waits

  pub came-starved : (old mid : Places) (outcome : Result QuotaOutcome X) → IsErr outcome → IsWaiting store was now → CameTo store limit was now call old mid outcome
  came-starved old mid (Ok outcome) is waits = absurd (cc (is))
  came-starved old mid (Err none) is waits = waits

pub carries-starved : {X : Type 0} (first last : ℕ) (outcome : Result QuotaOutcome X) → IsErr outcome → CarriesOutcome first last outcome
carries-starved first last (Ok outcome) is = absurd (cc (is))
carries-starved first last (Err none) is = tt

-- A CALL THAT MAY GROW AN OBJECT
module _ {E : Type 0} (store : Store) (limit : Totals) (was now : CallerSession E) (call : Call) (old mid : Places) (caller : IsCallerOf store was) where
  module _ (place : ℕ) (b : IsForeseenBeyond store limit was now call old mid place) where
    refused-rightly : IsRefusedRightly store limit was now call place
    refused-rightly limits is = record {
      pass = b.foreseen.sees.seat;
      is = b.foreseen.sees.is;
      at = b.at ∙ b.foreseen.place ∙ ap length (sym b.foreseen.sees.whole);
      beyond = λ scenario answered.
          ap (λ (l : List HistoryRecord). is_beyond limits (replay_at store scenario l).state now.number call) b.foreseen.sees.whole
          ∙ forecast-is store limit was now caller b.foreseen.waits.number call b.forecast b.gate.all b.foreseen.told limits is scenario (subst (AreAnswered store scenario) b.foreseen.sees.whole answered)
          ∙ b.beyond;
    }

  pub came-ends : {X : Type 0} (outcome : Result QuotaOutcome X) → CameTo store limit was now call old mid outcome → EndsLocked store limit was now call outcome
  came-ends (Ok (Answered answer)) (inl early) = early.1.answered
  came-ends (Ok (Answered answer)) (inr served) = answers-then store was served.mid now served.foreseen.waits call answer served.answered
  came-ends (Ok (Refused place)) beyond = record { waits = beyond.foreseen.waits; beyond = refused-rightly place beyond }
  came-ends (Err none) waits = waits

  -- the look behind it
  module _ (after : Places) (half : Sight PassView) (pass : now.pass ≡ Some half) (shown : HaveBeenShown store now.number half.knows mid after) (halves : AreHalves store old) (others : AreOthersHere store was.number old) where
    module _ (answer : PlacedReply) (s : IsServedWithin store limit was now call old mid answer) where
      -- the other sessions of the application have no event since their halves were shown the history before the call
      others_quiet : (k : ℕ) → k < length store.mounted.applications → is_eq (bytes_cmp (app_at store s.mid.number) (app_at store k)) ≡ true → (k ≡ s.mid.number → ⊥)
          → count_of k (events_of shown.gate.all) ≡ count_of k (events_of s.gate.all)
      others_quiet k known own other =
          let number : s.mid.number ≡ was.number = s.foreseen.waits.number in
          let here = others k known (λ same. other (same ∙ sym number)) (subst (λ (n : ℕ). is_eq (bytes_cmp (app_at store n) (app_at store k)) ≡ true) number own) in
          let there : kept_at mid k ≡ Some (half_shown s.gate here.0) = ap (λ (l : Places). kept_at l k) s.shown ∙ shown_some s.gate old k here.0 here.1 in
          let fits : PassFits shown.gate (half_shown s.gate here.0).knows = shown.others_fit k (half_shown s.gate here.0) (λ same. other (same ∙ s.answered.appends.extends.number)) there in
          count-begins k s.gate.all shown.gate.all (subst (λ (n : ℕ). IsUpToDate (is_of_session n) s.gate.all shown.gate.all) (halves k here.0 here.1).own fits.sees.begins)

      served-limits : KeepsLimits store limit was now
      served-limits =
          let begins = shown.fit.sees.begins in
          let seen = s.answered.appends.extends in
          let same : seen.new ≡ half = some_same seen.new half (sym seen.is ∙ pass) in
          served-within store limit was s.mid now call answer s.gate s.forecast caller s.foreseen s.within s.answered.mark s.answered.appends shown.gate.all begins.rest
          (ap (λ (p : Sight PassView). p.knows.seen ++ begins.rest) same ∙ begins.is) shown.sessions others_quiet

    pub came-limits : {X : Type 0} (outcome : Result QuotaOutcome X) → CameTo store limit was now call old mid outcome → KeepsLimits store limit was now
    came-limits (Ok (Answered answer)) (inl early) = answered-early store limit was now call answer early.0 early.1
    came-limits (Ok (Answered answer)) (inr served) = served-limits answer served
    came-limits (Ok (Refused place)) beyond = waiting-limits store limit was now beyond.foreseen.waits
    came-limits (Err none) waits = waiting-limits store limit was now waits

-- THE HALVES ARE THERE
module _ (kept : Places) (i : ℕ) (half : Sight PassView) where
  pub put_some : (k : ℕ) (there : Sight PassView) → kept_at kept k ≡ Some there → (now : Sight PassView) × (kept_at (slice_set kept i (Some half)) k ≡ Some now)
  put_some k there is = elim (cases_eq k i) [
    | inl same ↦ (half, ap (kept_at (slice_set kept i (Some half))) same ∙ set_there kept i (Some half) (subst (λ (n : ℕ). n < length kept) same (within_some kept k there is)))
    | inr other ↦ (there, set_else kept i (Some half) k other ∙ is)
  ]

module _ (store : Store) (session : ℕ) (own : PassView) (old new : Places) where
  pub put_keeps : AreHalves store old → HasPut store session own old new → KeepsHalves store session old new
  put_keeps halves put = record {
    halves = subst (AreHalves store) (sym put.put) (halves_put store old halves session put.half put.of);
    others = λ other half is.
        let now = put_some old session put.half other half is in
        (now.0, ap (λ (l : Places). kept_at l other) put.put ∙ now.1);
    own = λ within. (put.half, ap (λ (l : Places). kept_at l session) put.put ∙ set_there old session (Some put.half) within);
  }

  pub shown_keeps : (mid : Places) → AreHalves store mid → AreKeptAlike old mid → length mid ≡ length old → HaveBeenShown store session own mid new → KeepsHalves store session old new
  shown_keeps mid halves alike many s = record {
    halves =
        subst (AreHalves store) (sym s.shown)
        (halves_are_shown s.gate s.between store (subst (AreHalves store) (sym s.back.put) (halves_put store mid halves session s.back.half s.back.of)));
    others = λ other half is.
        let was = alike other half is in
        let now = put_some mid session s.back.half other was.0 was.1 in
        (half_shown s.gate now.0, at other now.0 (ap (λ (l : Places). kept_at l other) s.back.put ∙ now.1));
    own = λ within. (
      half_shown s.gate s.back.half,
      at session s.back.half
          (ap (λ (l : Places). kept_at l session) s.back.put ∙ set_there mid session (Some s.back.half) (subst (λ (n : ℕ). session < n) (sym many) within)),
    );
  }
    where
      at : (k : ℕ) (half : Sight PassView) → kept_at s.between k ≡ Some half → kept_at new k ≡ Some (half_shown s.gate half)
      at k half is = ap (λ (l : Places). kept_at l k) s.shown ∙ shown_some s.gate s.between k half is
