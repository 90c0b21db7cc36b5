-- A script without quotas does not exceed the store.
use Rattle.std.proofs.Common.{◌≡◌, ◌∙◌, ℕ, List, [], ◌∷◌, ◌++◌, None, Option, Some, inl, inr, refl, sym, ap, subst}
use Rattle.disk_model.specs.State.{FileState}
use Rattle.hmac_keys.specs.declared.Keys.{Keys}
use Rattle.rpmb_card.specs.Port.{PortState}
use Rattle.run_acts.specs.declared.MountFault.{MountFault}
use Rattle.script_runner.proofs.Ended.{HowEnded, how_ended, of_script, ran, shut, undone}
use Rattle.script_runner.proofs.Walks.{goes-no_stop}
use Rattle.script_runner.specs.Course.{AreActs, StopsAt}
use Rattle.script_runner.specs.declared.status.Status.TheVariants.{OverCommitted}
use Rattle.script_runner.specs.Records.{RunRecord, acts_in, outcomes_in}
use Rattle.script_runner.specs.RunCauses.{EndsActs, HasCause, World}
use Rattle.script_runner.specs.SavedFiles.{Standing, begins_with}
use Rattle.script_runner.specs.Text.{Act, ActOutcome, CutShort, Do, Exceeded, Refused, Serve, run_stop, stop_of}
use Rattle.script_runner.specs.Trace.{applications_of}
use Rattle.trusted_storage.specs.Laws.{RunsWithoutQuotasFit}
use Rattle.trusted_storage.specs.Runs.{quotas_in, records_of}
use Rattle.trusted_storage.proofs.Phases.{quotas_go, quotas_in-append}

-- of two lists that are none, each is
both_none : {A : Type 0} (front back : List A) → front ++ back ≡ [] → (front ≡ []) × (back ≡ [])
both_none [] back none = (refl, none)
both_none (x ∷ front) back none = cc

module _ {F R : Type 0} (of_file : F → FileState) (of_port : R → PortState) (image : FileState → ℕ → ℕ → List ℕ) (Reliable : Type 0) (keys : Keys) (apps : List (List ℕ)) (drew draws sum : ℕ) where
  -- without quotas no act stops a run so
  stop_fits : (act : Act) (outcome : ActOutcome) (old new : Standing) → StopsAt of_file of_port image Reliable keys apps drew draws act outcome old new → old.quotas ≡ [] → (later : List ActOutcome)
      → stop_of (outcome ∷ later) ≡ Some (Exceeded sum) → ⊥
  stop_fits (Serve mode calls) (Exceeded other) old new stops none later is = ((stops.0).0).some none
  stop_fits act (Refused fault) old new stops none later is = let e : ◌≡◌ {A = Option ActOutcome} (Some (Refused fault)) (Some (Exceeded sum)) = is in cc
  stop_fits act CutShort old new stops none later is = let e : ◌≡◌ {A = Option ActOutcome} (Some CutShort) (Some (Exceeded sum)) = is in cc
  stop_fits (Serve mode calls) outcome old new stops none later is = absurd stops
  stop_fits (Do control) outcome old new stops none later is = absurd stops

  acts_fit : (records : List RunRecord) (old new : Standing) → AreActs of_file of_port image Reliable keys apps drew draws records old new → old.quotas ≡ [] → quotas_in (acts_in records) ≡ []
      → stop_of (outcomes_in records) ≡ Some (Exceeded sum) → ⊥
  acts_fit [] old new acts none unset is = let e : ◌≡◌ {A = Option ActOutcome} None (Some (Exceeded sum)) = is in cc
  acts_fit (r ∷ records) old new acts none unset is =
      let first : (r.before).quotas ≡ [] = ap (λ (s : Standing). s.quotas) acts.0 ∙ none in
      let parts = both_none (quotas_in (r.act ∷ [])) (quotas_in (acts_in records)) (sym (quotas_in-append (r.act ∷ []) (acts_in records)) ∙ unset) in
      elim acts.1 [
        | inl does ↦
            let then : (r.behind).quotas ≡ [] =
            quotas_go of_file of_port image Reliable keys apps r.act r.outcome r.before r.behind does ∙ ap (λ q. q ++ quotas_in (r.act ∷ [])) first ∙ parts.0 in
            acts_fit records r.behind new acts.2 then parts.1
            (sym (goes-no_stop of_file of_port image Reliable keys apps (r ∷ []) r.before r.behind (refl, does, refl) (outcomes_in records)) ∙ is)
        | inr stop ↦ stop_fits r.act r.outcome r.before r.behind stop.0 first (outcomes_in records) is
      ]

pub unlimited_fit : {F R : Type 0} (of_file : F → FileState) (of_port : R → PortState) (image : FileState → ℕ → ℕ → List ℕ) (Reliable : Type 0) (w : World) → RunsWithoutQuotasFit of_file of_port image Reliable w
unlimited_fit of_file of_port image Reliable w c script sum is unset exceeded =
    one (how_ended of_file of_port image Reliable c.drew c.draws c.keys c.says.0 c.handed c.given script is c.says.2)
  where
    cause : HasCause w c.says.0 c.handed c.given (OverCommitted sum)
    cause = subst (HasCause w c.says.0 c.handed c.given) exceeded (c.says.1).cause

    stopped : run_stop (c.says.0).start (outcomes_in (records_of c)) ≡ Some (Exceeded sum)
    stopped = (of_script (c.says.0).taken script (λ other. EndsActs w c.says.0 other (OverCommitted sum)) is cause.1).1

    by : (start : Option MountFault) (outcomes : List ActOutcome) → (c.says.0).start ≡ start → outcomes_in (records_of c) ≡ outcomes → run_stop start outcomes ≡ Some (Exceeded sum)
    by start outcomes first then = subst (λ (s : Option MountFault). run_stop s outcomes ≡ Some (Exceeded sum)) first (subst (λ (l : List ActOutcome). run_stop (c.says.0).start l ≡ Some (Exceeded sum)) then stopped)

    one : HowEnded of_file of_port image Reliable c.drew c.draws c.keys c.says.0 c.handed c.given script is → ⊥
    one (undone same start none) = let e : ◌≡◌ {A = Option ActOutcome} None (Some (Exceeded sum)) = by None [] start (ap outcomes_in none) in cc
    one (shut fault start none refused) = let e : ◌≡◌ {A = Option ActOutcome} (Some (Refused fault)) (Some (Exceeded sum)) = by (Some fault) [] start (ap outcomes_in none) in cc
    one (ran start between opens left front goes) =
        acts_fit of_file of_port image Reliable c.keys (applications_of script) c.drew c.draws sum (records_of c) (begins_with between) goes.last goes.acts refl
        (both_none (quotas_in (acts_in (records_of c))) (quotas_in left) (sym (quotas_in-append (acts_in (records_of c)) left) ∙ ap quotas_in (sym front) ∙ unset)).0
        (by None (outcomes_in (records_of c)) start refl)
