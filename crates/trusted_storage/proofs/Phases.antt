-- What holds of every phase, holds of each of a run.
use Rattle.std.proofs.Common.{◌≡◌, ◌∙◌, ℕ, List, [], ◌∷◌, ◌++◌, None, Option, Some, append-nil, inl, inr, refl, sym, ap, subst}
use Rattle.disk_model.specs.State.{FileState}
use Rattle.hmac_keys.specs.declared.Keys.{Keys}
use Rattle.rpmb_card.specs.Port.{PortState}
use Rattle.app_quota.specs.declared.quotas.Quota.{Quota}
use Rattle.object_calls.specs.FinishedPhase.{AreAllHonest}
use Rattle.run_acts.proofs.CrashedLaws.{crashes_may_be}
use Rattle.run_acts.proofs.Untainted.{crashes_stay_untainted, flips_stay_untainted, lists_stay_untainted, openings_stay_untainted, phases_stay_untainted, restores_stay_untainted, untainted_files_are_honest}
use Rattle.run_acts.specs.Alterations.{file_number}
use Rattle.run_acts.specs.Benches.{BenchState}
use Rattle.run_acts.specs.Lines.{objects_text}
use Rattle.run_acts.specs.Phases.{RunsPhase}
use Rattle.run_acts.specs.Untainted.{AreUntainted, ArmNoMask}
use Rattle.script_runner.proofs.Alterings.{mask_none}
use Rattle.script_runner.proofs.Ended.{HowEnded, how_ended, ran, shut, undone}
use Rattle.script_runner.proofs.Walks.{acts_in-append}
use Rattle.script_runner.specs.Course.{AreActs, Does, StopsAt}
use Rattle.script_runner.specs.RecordLaws.{AltersNothing}
use Rattle.script_runner.specs.Records.{EachAct, IfPhase, RunRecord, acts_in}
use Rattle.script_runner.specs.RunCauses.{World}
use Rattle.script_runner.specs.SavedFiles.{PutsBack, Standing, begins_with, quota_for, served, with_bench}
use Rattle.script_runner.specs.Text.{Act, ActOutcome, Controlled, Do, Listed, PhaseRecord, Ran, Serve}
use Rattle.script_runner.specs.Trace.{applications_of, script_acts}
use Rattle.script_text.specs.declared.script.Arm.{Arm}
use Rattle.script_text.specs.declared.script.Arm.TheVariants.{Fail, Lose, Stop, Taint}
use Rattle.script_text.specs.declared.script.Control.{Control}
use Rattle.script_text.specs.declared.script.Control.TheVariants.{Arm as ArmControl, Crash, Flip, Mode as ModeControl, Phase, Quota as QuotaControl, Restore, Save}
use Rattle.script_text.specs.declared.script.Mode.{Mode}
use Rattle.script_text.specs.declared.script.Step.{Step}
use Rattle.script_text.specs.Script.{ScriptValue}
use Rattle.trusted_storage.specs.Runs.{EachPhase, RunCall, TaintNothing, TaintsNothing, TookScript, quotas_in, records_of}

no_mask : (arm : Arm) → TaintsNothing (Do (ArmControl arm)) → AltersNothing (Do (ArmControl arm))
no_mask (Stop device calls) none = tt
no_mask (Fail device call) none = tt
no_mask (Lose call) none = tt
no_mask (Taint file call at mask) none = none

put_back : (file : ℕ) (kept : Option (List ℕ)) (old new : BenchState) → PutsBack file kept old new → AreUntainted old.files → AreUntainted new.files
put_back file None old new same files = subst (λ (b : BenchState). AreUntainted b.files) (sym same) files
put_back file (Some bytes) old new restores files = restores_stay_untainted file bytes old new restores files

taint_front : (done left : List Act) → TaintNothing (done ++ left) → TaintNothing done
taint_front [] left none = tt
taint_front (act ∷ done) left none = (none.0, taint_front done left none.1)

pub quotas_in-append : (front back : List Act) → quotas_in (front ++ back) ≡ quotas_in front ++ quotas_in back
quotas_in-append [] back = refl
quotas_in-append (Do (QuotaControl app objects bytes) ∷ front) back = ap (λ l. quota_for app objects bytes ∷ l) (quotas_in-append front back)
quotas_in-append (act ∷ front) back = quotas_in-append front back

module _ {F R : Type 0} (of_file : F → FileState) (of_port : R → PortState) (image : FileState → ℕ → ℕ → List ℕ) (Reliable : Type 0) (keys : Keys) (apps : List (List ℕ)) where
  abbrev Does' : Act → ActOutcome → (old new : Standing) → Type 0
  Does' act outcome old new = Does of_file of_port image Reliable keys apps act outcome old new

  same_quotas : (old new : Standing) → new.quotas ≡ old.quotas → new.quotas ≡ old.quotas ++ []
  same_quotas old new same = same ∙ sym (append-nil old.quotas)

  -- the quotas behind an act
  pub quotas_go : (act : Act) (outcome : ActOutcome) (old new : Standing) → Does' act outcome old new → new.quotas ≡ old.quotas ++ quotas_in (act ∷ [])
  quotas_go (Serve mode calls) (Ran phase) old new does = same_quotas old new (ap (λ (s : Standing). s.quotas) does.1)
  quotas_go (Do (QuotaControl app objects bytes)) Controlled old new does = ap (λ (s : Standing). s.quotas) does
  quotas_go (Do (ModeControl mode)) Controlled old new does = same_quotas old new (ap (λ (s : Standing). s.quotas) does)
  quotas_go (Do Phase) Controlled old new does = same_quotas old new (ap (λ (s : Standing). s.quotas) does)
  quotas_go (Do (ArmControl arm)) Controlled old new does = same_quotas old new (ap (λ (s : Standing). s.quotas) does)
  quotas_go (Do (Crash seed)) Controlled old new does = same_quotas old new (ap (λ (s : Standing). s.quotas) does.1)
  quotas_go (Do (Save mark)) Controlled old new does = same_quotas old new (ap (λ (s : Standing). s.quotas) does)
  quotas_go (Do (Restore file mark)) Controlled old new does = same_quotas old new (ap (λ (s : Standing). s.quotas) does.1)
  quotas_go (Do (Flip file at mask)) Controlled old new does = same_quotas old new (ap (λ (s : Standing). s.quotas) does.1)
  quotas_go (Do control) (Listed objects) old new does =
      same_quotas old new (ap (λ (s : Standing). s.quotas) (does.1).1) ∙ ap (λ (c : Control). old.quotas ++ quotas_in (Do c ∷ [])) (sym does.0)
  quotas_go act outcome old new does = absurd does

  -- no file of the bench is tainted, and no mask waits
  abbrev pub IsTrustedAt : Standing → Type 0
  IsTrustedAt s = AreUntainted (s.bench).files × ArmNoMask s.arms

  at_behind : (old new there : Standing) → new ≡ there → AreUntainted (new.bench).files → ArmNoMask there.arms → IsTrustedAt new
  at_behind old new there is files none = (files, subst (λ (s : Standing). ArmNoMask s.arms) (sym is) none)

  trust_goes : (act : Act) (outcome : ActOutcome) (old new : Standing) → Does' act outcome old new → TaintsNothing act → IsTrustedAt old → IsTrustedAt new
  trust_goes (Serve mode calls) (Ran phase) old new does none t =
      at_behind old new (served old new.bench) does.1
      (phases_stay_untainted of_file of_port Reliable keys apps old.quotas old.arms mode calls old.bench new.bench phase.opening phase.events phase.refused does.0 t.1 t.0) tt
  trust_goes (Do (ModeControl mode)) Controlled old new does none t = subst IsTrustedAt (sym does) t
  trust_goes (Do Phase) Controlled old new does none t = subst IsTrustedAt (sym does) t
  trust_goes (Do (ArmControl arm)) Controlled old new does none t = subst IsTrustedAt (sym does) (t.0, mask_none old.arms arm t.1 (no_mask arm none))
  trust_goes (Do (Save mark)) Controlled old new does none t = subst IsTrustedAt (sym does) t
  trust_goes (Do (QuotaControl app objects bytes)) Controlled old new does none t = subst IsTrustedAt (sym does) t
  trust_goes (Do (Crash seed)) Controlled old new does none t =
      at_behind old new (with_bench old new.bench) does.1 (crashes_stay_untainted old.bench new.bench t.0 (crashes_may_be image seed old.bench new.bench does.0)) t.1
  trust_goes (Do (Restore file mark)) Controlled old new does none t =
      at_behind old new (with_bench old new.bench) does.1 (put_back (file_number file) (old.saved mark (file_number file)) old.bench new.bench does.0 t.0) t.1
  trust_goes (Do (Flip file at mask)) Controlled old new does none t =
      at_behind old new (with_bench old new.bench) does.1 (flips_stay_untainted (file_number file) at mask old.bench new.bench does.0 t.0) t.1
  trust_goes (Do control) (Listed objects) old new does none t =
      at_behind old new (with_bench old new.bench) (does.1).1 (lists_stay_untainted of_file of_port keys old.bench new.bench objects (objects_text objects) (does.1).0 t.0) t.1
  trust_goes act outcome old new does none t = absurd does

  -- `Trusted`: the files of the bench are trusted
  module _ (Trusted : Type 0) (P : (before behind : BenchState) → List Quota → Mode → List Step → PhaseRecord → Type 0)
      (holds : (quotas : List Quota) (arms : List Arm) (mode : Mode) (calls : List Step) (old new : BenchState) (phase : PhaseRecord)
      → RunsPhase of_file of_port Reliable keys apps quotas arms mode calls old new phase.opening phase.events phase.refused → (Trusted → AreAllHonest new.files) → P old new quotas mode calls phase) where
    abbrev One : List Quota → Act → ActOutcome → (old new : Standing) → Type 0
    One quotas act outcome old new = IfPhase (λ mode calls phase before behind. P before.bench behind.bench quotas mode calls phase) act outcome old new

    abbrev Each : List RunRecord → RunRecord → Type 0
    Each done r = One (quotas_in (acts_in done)) r.act r.outcome r.before r.behind

    done_holds : (quotas : List Quota) (act : Act) (outcome : ActOutcome) (old new : Standing) → Does' act outcome old new → old.quotas ≡ quotas → (Trusted → IsTrustedAt new) → One quotas act outcome old new
    done_holds quotas (Serve mode calls) (Ran phase) old new does are trust =
        subst (λ (q : List Quota). P old.bench new.bench q mode calls phase) are
        (holds old.quotas old.arms mode calls old.bench new.bench phase does.0 (λ t. untainted_files_are_honest (new.bench).files (trust t).0))
    done_holds quotas act outcome old new does are trust = tt

    module _ (drew draws : ℕ) where
      stop_holds : (quotas : List Quota) (act : Act) (outcome : ActOutcome) (old new : Standing) → StopsAt of_file of_port image Reliable keys apps drew draws act outcome old new → One quotas act outcome old new
      stop_holds quotas (Serve mode calls) (Ran phase) old new stops = absurd stops
      stop_holds quotas act outcome old new stops = tt

      each_acts : (done records : List RunRecord) (old new : Standing) → AreActs of_file of_port image Reliable keys apps drew draws records old new → old.quotas ≡ quotas_in (acts_in done)
          → (Trusted → IsTrustedAt old × TaintNothing (acts_in records)) → EachAct Each done records
      each_acts done [] old new acts are trust = tt
      each_acts done (r ∷ records) old new acts are trust = elim acts.1 [
        | inl does ↦
            let first : (r.before).quotas ≡ quotas_in (acts_in done) = ap (λ (s : Standing). s.quotas) acts.0 ∙ are in
            let later : Trusted → IsTrustedAt r.behind = λ t. trust_goes r.act r.outcome r.before r.behind does ((trust t).1).0 (subst IsTrustedAt (sym acts.0) (trust t).0) in
            let then : (r.behind).quotas ≡ quotas_in (acts_in (done ++ r ∷ [])) =
            quotas_go r.act r.outcome r.before r.behind does ∙ ap (λ q. q ++ quotas_in (r.act ∷ [])) first ∙ sym (quotas_in-append (acts_in done) (r.act ∷ [])) ∙ ap quotas_in (sym (acts_in-append done (r ∷ []))) in
            (done_holds (quotas_in (acts_in done)) r.act r.outcome r.before r.behind does first later, each_acts (done ++ r ∷ []) records r.behind new acts.2 then (λ t. (later t, ((trust t).1).1)))
        | inr stop ↦
            (stop_holds (quotas_in (acts_in done)) r.act r.outcome r.before r.behind stop.0, subst (λ (l : List RunRecord). EachAct Each (done ++ r ∷ []) l) (sym stop.1) tt)
      ]

-- so of each phase of a run that took that script
pub each_of_run : {F R : Type 0} (of_file : F → FileState) (of_port : R → PortState) (image : FileState → ℕ → ℕ → List ℕ) (Reliable : Type 0) (w : World) (Trusted : Type 0)
    (P : (before behind : BenchState) → List Quota → Mode → List Step → PhaseRecord → Type 0) (c : RunCall of_file of_port image Reliable w) (script : ScriptValue)
    → ((quotas : List Quota) (arms : List Arm) (mode : Mode) (calls : List Step) (old new : BenchState) (phase : PhaseRecord)
    → RunsPhase of_file of_port Reliable c.keys (applications_of script) quotas arms mode calls old new phase.opening phase.events phase.refused → (Trusted → AreAllHonest new.files) → P old new quotas mode calls phase)
    → TookScript c script → (Trusted → AreUntainted c.handed.files × TaintNothing (script_acts script)) → EachPhase c P
each_of_run of_file of_port image Reliable w Trusted P c script holds is trust =
    one (how_ended of_file of_port image Reliable c.drew c.draws c.keys c.says.0 c.handed c.given script is c.says.2)
  where
    Of : List RunRecord → Type 0
    Of records = EachAct (Each of_file of_port image Reliable c.keys (applications_of script) Trusted P holds) [] records

    one : HowEnded of_file of_port image Reliable c.drew c.draws c.keys c.says.0 c.handed c.given script is → Of (records_of c)
    one (undone same start none) = subst Of (sym none) tt
    one (shut fault start none refused) = subst Of (sym none) tt
    one (ran start between opens left front goes) =
        each_acts of_file of_port image Reliable c.keys (applications_of script) Trusted P holds c.drew c.draws [] (records_of c) (begins_with between) goes.last goes.acts refl
        (λ t. ((openings_stay_untainted c.keys c.handed between opens (trust t).0, tt), taint_front (acts_in (records_of c)) left (subst TaintNothing front (trust t).1)))
