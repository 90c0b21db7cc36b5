-- A history keeps its quotas, where each session kept its limits in its view of it.
use Rattle.std.proofs.Common.{◌≡◌, ◌∙◌, ◌+◌, ◌<◌, ◌≤◌, ℕ, All, AllPairs, List, [], ◌++◌, length, take, slice_index_or, Option, Some, inl, inr, sym, ap, subst, append_assoc, length-append, arith}
use Rattle.std.proofs.lemmas.Bool.{cases_lt}
use Rattle.std.proofs.lemmas.List.{take_all, take_at}
use Rattle.std.proofs.lemmas.List.Elements.{All-weaker}
use Rattle.app_quota.specs.Isolation.{AreOwnWithin}
use Rattle.app_quota.specs.Limits.{Limits}
use Rattle.app_quota.specs.Quotas.{limit_of}
use Rattle.app_quota.specs.declared.quotas.Quota.{Quota}
use Rattle.app_quota.proofs.SessionLimits.{own_calls_join, quiet_sessions_are_within, sessions_within_are_within}
use Rattle.core_laws.specs.Answered.{AreAnswered}
use Rattle.core_laws.specs.Stores.{Store, replay_at, start_under}
use Rattle.core_laws.specs.TamperScenarios.{TamperScenario}
use Rattle.core_laws.proofs.Answers.{answered-front}
use Rattle.core_laws.proofs.Mending.{some_same}
use Rattle.history_seats.specs.Records.{HistoryRecord}
use Rattle.history_seats.specs.Views.{GateView, PassView, Sight}
use Rattle.object_calls.specs.FinishedPhase.{HaveCounted}
use Rattle.object_calls.specs.OpeningSessions.{AreSeated, HaveNoEvents}
use Rattle.script_text.specs.declared.script.Step.{Step}
use Rattle.script_text.specs.declared.script.Step.TheVariants.{Call as CallStep}
use Rattle.quota_store.specs.CallerSessions.{CallerSession}
use Rattle.quota_store.proofs.QuotaHistories.{new_sessions_have_kept}
use Rattle.store_model.specs.History.{calls_of, count_of}
use Rattle.store_model.specs.Record.{events_of}
use Rattle.tee_types.specs.declared.call.Call.{Call}
use Rattle.run_acts.specs.OwnCalls.{own_calls}
use Rattle.run_acts.specs.OwnQuotas.{IsCallOf, KeepLimitsOver, KeepsLimitsOver, WasRefused, all_in}
use Rattle.run_acts.specs.QuotaRefusals.{IsBeyondBehind, IsRightlyRefused, KeepsQuotas, admitted}
use Rattle.run_acts.specs.Seen.{seen_by}
use Rattle.run_acts.specs.ServedSteps.{calls_in}
use Rattle.run_acts.specs.declared.refused_call.RefusedCall.{RefusedCall}
use Rattle.run_acts.proofs.Calls.{count-rest}
use Rattle.run_acts.proofs.Lists.{at_each}
use Rattle.run_acts.proofs.Makings.{unmade-own}
use Rattle.run_acts.proofs.QuotaLists.{All-all_in, AreOwnCalls, ordered-all_in, own-admitted}

module _ {E : Type 0} (quotas : List Quota) (store : Store) (steps : List Step) (was now : List (CallerSession E)) (lists : List (List RefusedCall)) (seated : AreSeated store was) (unmade : HaveNoEvents was)
    (many : length now ≡ length was) (same : length lists ≡ length was) (keep : KeepLimitsOver store (limit_of quotas) steps was now lists) (view : GateView) (counted : HaveCounted view now)
    (past : (session : ℕ) → length was ≤ session → count_of session (events_of view.all) ≡ 0) where
  abbrev limits : Limits
  limits = limit_of quotas

  module _ (i : ℕ) (d : CallerSession E) (below : i < length was) where
    abbrev first : CallerSession E
    first = slice_index_or was i d

    abbrev last : CallerSession E
    last = slice_index_or now i d

    still : i < length now
    still = omega (arith, below, many)

    listed : i < length lists
    listed = omega (arith, below, same)

    number : first.number ≡ i
    number = seated.numbered i d below

    module _ (none : List RefusedCall) where
      abbrev own : List RefusedCall
      own = slice_index_or lists i none

      k : KeepsLimitsOver store limits steps first last own
      k = keep i d none below

      -- the rest of the history, behind what the session saw
      module _ (rest : List HistoryRecord) (whole : seen_by last.pass ++ rest ≡ view.all) where
        rightly-one : (r : RefusedCall) → WasRefused store limits steps first last own r → AreOwnCalls steps 0 lists → IsRightlyRefused limits store view.all steps (all_in lists) r
        rightly-one r w all_own =
            let front_is : w.front ++ (w.rest ++ rest) ≡ view.all = sym (append_assoc w.front w.rest rest) ∙ ap (λ (l : List HistoryRecord). l ++ rest) w.begins ∙ whole in
            let taken : take r.place view.all ≡ w.front = ap (take r.place) (sym front_is) ∙ take_at w.front (w.rest ++ rest) r.place (sym w.place) in
            let nothing : own_calls first ≡ [] = unmade-own store first (seated.each i d below) (unmade i d below) in
            let earlier : calls_of i (events_of w.front) ≡ calls_in i (admitted own (take r.step steps)) =
            subst (λ (n : ℕ). calls_of n (events_of w.front) ≡ calls_in n (admitted own (take r.step steps))) number
            (w.between ∙ ap (λ (l : List Call). l ++ calls_in first.number (admitted own (take r.step steps))) nothing) in
            record {
              app = i;
              call = w.call;
              is = w.is ∙ ap (λ (n : ℕ). Some (CallStep n w.call)) number;
              stood = omega (arith, w.place, ap length front_is, length-append w.front (w.rest ++ rest));
              beyond = subst (λ (l : List HistoryRecord). IsBeyondBehind store limits l i w.call) (sym taken) (subst (λ (n : ℕ). IsBeyondBehind store limits w.front n w.call) number w.beyond);
              between = ap (λ (l : List HistoryRecord). calls_of i (events_of l)) taken ∙ earlier ∙ sym (own-admitted steps lists i none r.step all_own listed);
            }

    own-within : (scenario : TamperScenario) → AreAnswered store scenario view.all → AreOwnWithin i limits (start_under store scenario) view.all
    own-within scenario answered =
        let c = (counted i d still).begins in
        let seat = c.seat in
        let begins = c.fits.sees.begins in
        let kept = k [] in
        let is_own : seat.knows.session ≡ i =
        ap (λ (p : Sight PassView). p.knows.session) (some_same seat kept.caller.session.pass (sym c.is ∙ kept.caller.session.is)) ∙ sym kept.caller.session.number ∙ kept.number ∙ number in
        let before : AreOwnWithin i limits (start_under store scenario) seat.knows.seen =
        subst (λ (n : ℕ). AreOwnWithin n limits (start_under store scenario) seat.knows.seen) (kept.number ∙ number)
        (kept.kept (new_sessions_have_kept store limits first (seated.each i d below) (unmade i d below)) seat c.is scenario
        (answered-front store scenario seat.knows.seen begins.rest (subst (AreAnswered store scenario) (sym begins.is) answered))) in
        let quiet : count_of i (events_of begins.rest) ≡ 0 =
        subst (λ (n : ℕ). count_of n (events_of begins.rest) ≡ 0) is_own (count-rest seat.knows.session seat.knows.seen view.all begins) in
        subst (AreOwnWithin i limits (start_under store scenario)) begins.is
        (own_calls_join i limits (start_under store scenario) seat.knows.seen begins.rest before
        (quiet_sessions_are_within i limits (replay_at store scenario seat.knows.seen) begins.rest quiet))

    -- the calls that were refused, from the whole history
    rightly-own : AreOwnCalls steps 0 lists → (none : List RefusedCall) → All (IsRightlyRefused limits store view.all steps (all_in lists)) (slice_index_or lists i none)
    rightly-own all_own none =
        let c = (counted i d still).begins in
        let begins = c.fits.sees.begins in
        let whole : seen_by last.pass ++ begins.rest ≡ view.all = ap (λ (p : Option (Sight PassView)). seen_by p ++ begins.rest) c.is ∙ begins.is in
        All-weaker (WasRefused store limits steps first last (slice_index_or lists i none)) (IsRightlyRefused limits store view.all steps (all_in lists))
        (λ r w. rightly-one none begins.rest whole r w all_own) (slice_index_or lists i none) (k none).rightly

    own-calls : (none : List RefusedCall) → All (IsCallOf steps (0 + i)) (slice_index_or lists i none)
    own-calls none =
        let here : first.number ≡ 0 + i = omega (arith, number) in
        All-weaker (WasRefused store limits steps first last (slice_index_or lists i none)) (IsCallOf steps (0 + i))
        (λ r w. (w.call, w.is ∙ ap (λ (n : ℕ). Some (CallStep n w.call)) here)) (slice_index_or lists i none) (k none).rightly

  pub all-own : AreOwnCalls steps 0 lists
  all-own i none below =
      at_each was (λ n. All (IsCallOf steps (0 + n)) (slice_index_or lists n none)) (λ n d within. own-calls n d within none) i (omega (arith, below, same))

  -- each application's admitted calls are told by its own list
  pub calls-own : (i : ℕ) (none : List RefusedCall) → i < length was → calls_in i (admitted (all_in lists) steps) ≡ calls_in i (admitted (slice_index_or lists i none) steps)
  calls-own i none below =
      let whole = take_all (length steps) steps (omega arith) in
      subst (λ (l : List Step). calls_in i (admitted (all_in lists) l) ≡ calls_in i (admitted (slice_index_or lists i none) l)) whole
      (own-admitted steps lists i none (length steps) all-own (omega (arith, below, same)))

  pub quotas-kept : KeepsQuotas quotas store view.all steps (all_in lists)
  quotas-kept = record {
    within = λ scenario answered.
        sessions_within_are_within limits (start_under store scenario) view.all (λ session. each_within scenario answered session);
    rightly = All-all_in (IsRightlyRefused limits store view.all steps (all_in lists)) lists
        (λ i none below.
        at_each was (λ n. All (IsRightlyRefused limits store view.all steps (all_in lists)) (slice_index_or lists n none)) (λ n d within. rightly-own n d within all-own none) i (omega (arith, below, same)));
    in_order = ordered-all_in steps 0 lists all-own
        (λ i none below. at_each was (λ n. AllPairs (λ (a b : RefusedCall). a.step < b.step) (slice_index_or lists n none)) (λ n d within. (k n d within none).rising) i (omega (arith, below, same)));
  }
    where
      each_within : (scenario : TamperScenario) → AreAnswered store scenario view.all → (session : ℕ) → AreOwnWithin session limits (start_under store scenario) view.all
      each_within scenario answered session = elim (cases_lt session (length was)) [
        | inl within ↦ at_each was (λ n. AreOwnWithin n limits (start_under store scenario) view.all) (λ n d below. own-within n d below scenario answered) session within
        | inr beyond ↦ quiet_sessions_are_within session limits (start_under store scenario) view.all (past session (omega (arith, beyond)))
      ]
