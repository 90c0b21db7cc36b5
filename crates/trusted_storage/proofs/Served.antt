-- What was recorded is of the script, and each phase has the calls of its act.
use Rattle.std.proofs.Common.{◌≡◌, ◌∙◌, ℕ, All, AllPairs, List, [], ◌∷◌, ◌++◌, None, Some, arith, slice_get, inl, inr, refl, sym, ap, subst}
use Rattle.disk_model.specs.State.{FileState}
use Rattle.rpmb_card.specs.Port.{PortState}
use Rattle.app_quota.specs.declared.quotas.Quota.{Quota}
use Rattle.core_laws.specs.Stores.{Store}
use Rattle.history_seats.specs.Records.{HistoryRecord}
use Rattle.run_acts.specs.QuotaRefusals.{ComesBefore, KeepsPhaseQuotas}
use Rattle.run_acts.specs.declared.refused_call.RefusedCall.{RefusedCall}
use Rattle.script_runner.specs.RunCauses.{World}
use Rattle.script_text.specs.declared.script.Step.{Step}
use Rattle.script_text.specs.declared.script.Step.TheVariants.{Call as CallStep}
use Rattle.tee_types.specs.declared.call.Call.{Call}
use Rattle.trusted_storage.specs.Laws.{CallsAreServedOnce}
use Rattle.hmac_keys.specs.declared.Keys.{Keys}
use Rattle.script_runner.proofs.Ended.{HowEnded, how_ended, ran, shut, undone}
use Rattle.script_runner.proofs.Walks.{outcomes_in-append}
use Rattle.script_runner.specs.Course.{AreActs, Does, DoesControl, StopsAt}
use Rattle.script_runner.specs.Records.{EachAct, RunRecord, outcomes_in}
use Rattle.script_runner.specs.SavedFiles.{Standing, begins_with}
use Rattle.script_runner.specs.Text.{Act, ActOutcome, Controlled, CutShort, Do, Exceeded, Listed, Ran, Refused, Serve, stop_of}
use Rattle.script_runner.specs.Trace.{applications_of, script_acts}
use Rattle.script_text.specs.declared.script.Control.{Control}
use Rattle.script_text.specs.Script.{ScriptValue}
use Rattle.trusted_storage.specs.Runs.{AreOfScript, CameOf, IsServed, RunCall, TookScript, records_of}
use Rattle.trusted_storage.proofs.Phases.{each_of_run}

-- the refused calls of a phase
module _ (store : Store) (records : List HistoryRecord) (calls : List Step) (refused : List RefusedCall) where
  abbrev AreOfSteps : List RefusedCall → Type 0
  AreOfSteps all = All (λ r. (app : ℕ) × (call : Call) × (slice_get calls r.step ≡ Some (CallStep app call))) all

  of_none : refused ≡ [] → AreOfSteps refused × AllPairs (ComesBefore calls) refused
  of_none none = subst (λ (l : List RefusedCall). AreOfSteps l × AllPairs (ComesBefore calls) l) (sym none) ((λ k d lt. absurd (omega arith)), (λ i j d less lt. absurd (omega arith)))

  refused_once : (quotas : List Quota) → KeepsPhaseQuotas quotas store records calls refused → AreOfSteps refused × AllPairs (ComesBefore calls) refused
  refused_once [] none = of_none none
  refused_once (quota ∷ quotas) kept = ((λ k d lt. let r = kept.rightly k d lt in (r.app, r.call, r.is)), kept.in_order)

  refused_none : (quotas : List Quota) → quotas ≡ [] → KeepsPhaseQuotas quotas store records calls refused → refused ≡ []
  refused_none [] is none = none
  refused_none (quota ∷ quotas) is kept = absurd cc

-- WHAT CAME OF EACH ACT
stop-then : (front back : List ActOutcome) → stop_of front ≡ None → stop_of (front ++ back) ≡ stop_of back
stop-then [] back none = refl
stop-then (Ran phase ∷ front) back none = stop-then front back none
stop-then (Listed objects ∷ front) back none = stop-then front back none
stop-then (Controlled ∷ front) back none = stop-then front back none
stop-then (stop ∷ front) back none = cc

module _ {F R : Type 0} (of_file : F → FileState) (of_port : R → PortState) (image : FileState → ℕ → ℕ → List ℕ) (Reliable : Type 0) (keys : Keys) (apps : List (List ℕ)) where
  done_came : (act : Act) (outcome : ActOutcome) (old new : Standing) → Does of_file of_port image Reliable keys apps act outcome old new → CameOf act outcome × (stop_of (outcome ∷ []) ≡ None)
  done_came (Serve mode calls) (Ran phase) old new does = (tt, refl)
  done_came (Do control) (Listed objects) old new does = (does.0, refl)
  done_came (Do control) Controlled old new does = ((λ same. subst (λ (c : Control). DoesControl of_file of_port image Reliable keys apps c old new) same does), refl)
  done_came act outcome old new does = absurd does

  module _ (drew draws : ℕ) where
    stop_came : (act : Act) (outcome : ActOutcome) (old new : Standing) → StopsAt of_file of_port image Reliable keys apps drew draws act outcome old new → CameOf act outcome
    stop_came (Serve mode calls) (Refused fault) old new stops = refl
    stop_came (Serve mode calls) (Exceeded sum) old new stops = refl
    stop_came (Do control) (Refused fault) old new stops = refl
    stop_came (Do control) CutShort old new stops = refl
    stop_came act outcome old new stops = absurd stops

    abbrev Came : List RunRecord → RunRecord → Type 0
    Came done r = CameOf r.act r.outcome × (stop_of (outcomes_in done) ≡ None)

    each_came : (done records : List RunRecord) (old new : Standing) → AreActs of_file of_port image Reliable keys apps drew draws records old new → stop_of (outcomes_in done) ≡ None → EachAct Came done records
    each_came done [] old new acts none = tt
    each_came done (r ∷ records) old new acts none = elim acts.1 [
      | inl does ↦
          let came = done_came r.act r.outcome r.before r.behind does in
          let then : stop_of (outcomes_in (done ++ r ∷ [])) ≡ None = ap stop_of (outcomes_in-append done (r ∷ [])) ∙ stop-then (outcomes_in done) (r.outcome ∷ []) none ∙ came.1 in
          ((came.0, none), each_came (done ++ r ∷ []) records r.behind new acts.2 then)
      | inr stop ↦ ((stop_came r.act r.outcome r.before r.behind stop.0, none), subst (λ (l : List RunRecord). EachAct Came (done ++ r ∷ []) l) (sym stop.1) tt)
    ]

module _ {F R : Type 0} (of_file : F → FileState) (of_port : R → PortState) (image : FileState → ℕ → ℕ → List ℕ) (Reliable : Type 0) (w : World) where
  -- what was recorded is of the script
  pub records_of_script : (c : RunCall of_file of_port image Reliable w) (script : ScriptValue) → TookScript c script → AreOfScript script (records_of c)
  records_of_script c script is = one (how_ended of_file of_port image Reliable c.drew c.draws c.keys c.says.0 c.handed c.given script is c.says.2)
    where
      nothing : AreOfScript script []
      nothing = record { left = script_acts script; acts_are = refl; each = tt }

      one : HowEnded of_file of_port image Reliable c.drew c.draws c.keys c.says.0 c.handed c.given script is → AreOfScript script (records_of c)
      one (undone same start none) = subst (AreOfScript script) (sym none) nothing
      one (shut fault start none refused) = subst (AreOfScript script) (sym none) nothing
      one (ran start between opens left front goes) = record {
        left = left;
        acts_are = front;
        each = each_came of_file of_port image Reliable c.keys (applications_of script) c.drew c.draws [] (records_of c) (begins_with between) goes.last goes.acts refl;
      }

  pub calls_served : CallsAreServedOnce of_file of_port image Reliable w
  calls_served c script is = (
    records_of_script c script is,
    each_of_run of_file of_port image Reliable w ⊥ (λ before behind. IsServed) c script
        (λ quotas arms mode calls old new phase r honest.
        let s = r.serves in
        let once = refused_once s.store ((s.closes).view).all calls phase.refused quotas s.quotas_kept in
        record {
          events = (s.closes).serves;
          refused = once.0;
          in_order = once.1;
          unrefused = λ none. refused_none s.store ((s.closes).view).all calls phase.refused quotas none s.quotas_kept;
        }) is (λ trusted. absurd trusted),
  )
