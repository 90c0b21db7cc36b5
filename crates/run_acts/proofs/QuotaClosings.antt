-- A store that was served under quotas, one call after another, and closed.
use Rattle.std.proofs.Common.{◌≡◌, ◌≢◌, ◌∙◌, ◌≤◌, ℕ, List, [], length, take, Option, Result, Ok, Err, IfErr, IfOk, refl, sym, subst, arith, ap}
use Rattle.std.specs.Prelude.{MatchResult}
use Rattle.std.proofs.lemmas.List.{take_all}
use Rattle.disk_model.specs.State.{FileState}
use Rattle.rpmb_card.specs.Port.{PortState}
use Rattle.app_quota.specs.Quotas.{limit_of}
use Rattle.app_quota.specs.declared.quotas.Quota.{Quota}
use Rattle.core_laws.specs.Stores.{Store}
use Rattle.object_calls.specs.FinishedPhase.{HaveCounted, LeavesStore}
use Rattle.object_calls.specs.OpeningSessions.{AreSeated, HaveNoEvents}
use Rattle.object_calls.specs.Services.{ServiceValue}
use Rattle.script_text.specs.declared.script.Mode.{Mode}
use Rattle.script_text.specs.declared.script.Mode.TheVariants.{Serial}
use Rattle.script_text.specs.declared.script.Step.{Step}
use Rattle.quota_store.specs.CallerSessions.{CallerSession}
use Rattle.quota_store.specs.EventCounts.{events_at}
use Rattle.store_model.specs.declared.event.Event.{Event}
use Rattle.store_model.specs.History.{count_of}
use Rattle.store_model.specs.Record.{events_of}
use Rattle.run_acts.specs.Benches.{BenchState}
use Rattle.run_acts.specs.Closing.{ClosesEarly, ClosesStore}
use Rattle.run_acts.specs.MadeCalls.{MakesCalls}
use Rattle.run_acts.specs.OwnQuotas.{all_in}
use Rattle.run_acts.specs.PhaseServing.{HasDevices}
use Rattle.run_acts.specs.QuotaCalls.{MakesCallsWithin}
use Rattle.run_acts.specs.QuotaClosing.{ClosesWithin}
use Rattle.run_acts.specs.QuotaRefusals.{HoldsOfAdmitted, admitted}
use Rattle.run_acts.specs.Reliable.{AreFresh, AreReliable, StayReliable}
use Rattle.run_acts.specs.ServedSteps.{AreCalls}
use Rattle.run_acts.specs.declared.refused_call.RefusedCall.{RefusedCall}
use Rattle.run_acts.proofs.Admissions.{admitted-none, calls-admitted, quotas-for}
use Rattle.run_acts.proofs.Calls.{calls_in-past, length-calls_of}
use Rattle.run_acts.proofs.Closings.{closes_early_within, closes_within}
use Rattle.run_acts.proofs.Phases.{serves_made}
use Rattle.run_acts.proofs.QuotasKept.{quotas-kept}

-- two facts of one answer
pub IfOk-both : {A B : Type 0} (r : Result A B) (P Q S : A → Type 0) → ((x : A) → P x → Q x → S x) → IfOk r P → IfOk r Q → IfOk r S
IfOk-both (Ok x) P Q S both first then = both x first then
IfOk-both (Err e) P Q S both first then = first

-- a fact of either answer
pub match-both : {A B : Type 0} (r : Result A B) (P : A → Type 0) (Q : B → Type 0) → IfOk r P → IfErr r Q → MatchResult r P Q
match-both (Ok x) P Q first second = first
match-both (Err e) P Q first second = second

-- without any quota no call is refused
pub closes-unlimited : (Reliable : Type 0) (store : Store) (quotas : List Quota) (before : BenchState) (mode : Mode) (calls : List Step) (closed : BenchState) (events : List Event) (refused : List RefusedCall)
    → quotas ≡ [] → refused ≡ [] → ClosesStore Reliable store before mode calls closed events → ClosesWithin Reliable store quotas before mode calls closed events refused
closes-unlimited Reliable store quotas before mode calls closed events refused none unrefused closes =
    subst (λ (l : List Quota). ClosesWithin Reliable store l before mode calls closed events refused) (sym none)
    (subst (ClosesWithin Reliable store [] before mode calls closed events) (sym unrefused)
    (record { closes = subst (λ (l : List Step). ClosesStore Reliable store before mode l closed events) (sym (admitted-none calls)) closes; quotas_kept = refl }))

module _ {F R E : Type 0} (of_file : F → FileState) (of_port : R → PortState) (draws : E → ℕ) (is_reliable : E → Type 0) (store : Store) (quotas : List Quota) (some : quotas ≢ []) (steps : List Step)
    (old new : ServiceValue F R) (before closed : BenchState) (was now : List (CallerSession E)) (lists : List (List RefusedCall)) (has_before : HasDevices of_file of_port old before)
    (has_closed : HasDevices of_file of_port new closed) (empty : events_at old.gate ≡ []) (doubt : Option ℕ) (leaves : LeavesStore store new.gate.journal.knows closed.files closed.card doubt) where
  module _ (made : MakesCallsWithin of_file of_port draws store (limit_of quotas) old new was now steps lists) where
    -- a session past the last has no event
    none-past : AreCalls (length was) steps → (session : ℕ) → length was ≤ session → count_of session (events_of new.gate.journal.knows.all) ≡ 0
    none-past calls session past =
        sym (length-calls_of session (events_of new.gate.journal.knows.all))
        ∙ ap length ((serves_made of_file of_port draws store old new was now (admitted (all_in lists) steps) made.makes empty Serial).of_each_application session
        ∙ calls_in-past (length was) session (admitted (all_in lists) steps) past (calls-admitted (length was) (all_in lists) steps calls))

    pub served-within : AreSeated store was → HaveNoEvents was → AreCalls (length was) steps → AreFresh draws was → StayReliable is_reliable draws was now → length now ≡ length was → length lists ≡ length was
        → HaveCounted new.gate.journal.knows now → (events : List Event) → events ≡ events_of new.gate.journal.knows.all
        → ClosesWithin (AreReliable is_reliable was) store quotas before Serial steps closed events (all_in lists)
    served-within seated unmade calls fresh stay many listed counted events is =
        closes_within of_file of_port draws is_reliable store old new before closed was now steps (all_in lists) has_before has_closed quotas made.makes doubt events seated.many fresh stay empty is leaves
        (quotas-for quotas store new.gate.journal.knows.all steps (all_in lists) some
        (quotas-kept quotas store steps was now lists seated unmade many listed made.keep new.gate.journal.knows counted (none-past calls)))

    -- memory ran out as the refused calls were gathered
    pub served-early : HoldsOfAdmitted quotas steps (λ l. ClosesEarly store before Serial l closed)
    served-early =
        let whole = take_all (length steps) steps (omega arith) in
        closes_early_within of_file of_port draws is_reliable store old new before closed was now steps (all_in lists) has_before has_closed quotas some (length steps)
        (subst (λ (l : List Step). MakesCalls of_file of_port draws store old new was now (admitted (all_in lists) l)) (sym whole) made.makes) doubt empty leaves

  -- memory ran out in a call
  pub stopped-early : (made : ℕ) → MakesCalls of_file of_port draws store old new was now (admitted (all_in lists) (take made steps)) → HoldsOfAdmitted quotas steps (λ l. ClosesEarly store before Serial l closed)
  stopped-early made makes =
      closes_early_within of_file of_port draws is_reliable store old new before closed was now steps (all_in lists) has_before has_closed quotas some made makes doubt empty leaves
