-- Each phase of a run under quotas.
use Rattle.std.proofs.Common.{◌≡◌, ◌⊎◌, ℕ, List, [], ◌∷◌, ◌++◌, inl, inr, subst, sym}
use Rattle.disk_model.specs.State.{FileState}
use Rattle.hmac_keys.specs.declared.Keys.{Keys}
use Rattle.rpmb_card.specs.Port.{PortState}
use Rattle.run_acts.proofs.QuotaLaws.{quota_phases_isolate}
use Rattle.script_runner.specs.Course.{Does, Goes, StopsAt}
use Rattle.script_runner.specs.QuotaRuns.{IsolatesApplications, QuotaRunsIsolate}
use Rattle.script_runner.specs.Records.{EachAct, IfPhase, OfPhase, RunRecord}
use Rattle.script_runner.specs.SavedFiles.{Standing}
use Rattle.script_runner.specs.Text.{Act, ActOutcome, Ran, Serve}
use Rattle.script_runner.proofs.Walks.{Parted, Stopped, each_act-more, part}

module _ {F R : Type 0} (of_file : F → FileState) (of_port : R → PortState) (image : FileState → ℕ → ℕ → List ℕ) (Reliable : Type 0) (keys : Keys) (apps : List (List ℕ)) where
  abbrev Isolates : List RunRecord → RunRecord → Type 0
  Isolates done r = OfPhase (IsolatesApplications of_file of_port image Reliable keys apps) r

  act_isolates : (act : Act) (outcome : ActOutcome) (old new : Standing) → Does of_file of_port image Reliable keys apps act outcome old new → IfPhase (IsolatesApplications of_file of_port image Reliable keys apps) act outcome old new
  act_isolates (Serve mode calls) (Ran phase) old new does = record {
    runs = does.0;
    isolates = λ scenario some answered legal.
        quota_phases_isolate of_file of_port Reliable keys apps old.quotas old.arms mode calls old.bench new.bench phase.opening phase.events phase.refused scenario does.0 some answered legal;
  }
  act_isolates act outcome old new does = tt

  acts_isolate : (done records : List RunRecord) (old new : Standing) → Goes of_file of_port image Reliable keys apps records old new → EachAct Isolates done records
  acts_isolate done [] old new goes = tt
  acts_isolate done (r ∷ records) old new goes = (act_isolates r.act r.outcome r.before r.behind goes.1, acts_isolate (done ++ r ∷ []) records r.behind new goes.2)

  module _ (drew draws : ℕ) where
    stop_isolates : (act : Act) (outcome : ActOutcome) (old new : Standing) → StopsAt of_file of_port image Reliable keys apps drew draws act outcome old new
        → IfPhase (IsolatesApplications of_file of_port image Reliable keys apps) act outcome old new
    stop_isolates (Serve mode calls) (Ran phase) old new stops = absurd stops
    stop_isolates act outcome old new stops = tt

    parted_isolate : (records : List RunRecord) (old new : Standing) (p : Parted of_file of_port image Reliable keys apps drew draws records old new)
        → ((records ≡ p.done) × (new ≡ p.mid)) ⊎ Stopped of_file of_port image Reliable keys apps drew draws records p.done p.mid new → EachAct Isolates [] records
    parted_isolate records old new p (inl x) = subst (EachAct Isolates []) (sym x.0) (acts_isolate [] p.done old p.mid p.goes)
    parted_isolate records old new p (inr x) =
        subst (EachAct Isolates []) (sym x.is)
        (each_act-more Isolates [] p.done x.r (acts_isolate [] p.done old p.mid p.goes) (stop_isolates (x.r).act (x.r).outcome (x.r).before (x.r).behind x.stops))

pub quota_runs_isolate : {F R : Type 0} (of_file : F → FileState) (of_port : R → PortState) (image : FileState → ℕ → ℕ → List ℕ) (Reliable : Type 0) (keys : Keys) (apps : List (List ℕ))
    → QuotaRunsIsolate of_file of_port image Reliable keys apps
quota_runs_isolate of_file of_port image Reliable keys apps drew draws records old new acts =
    let p = part of_file of_port image Reliable keys apps drew draws records old new acts in parted_isolate of_file of_port image Reliable keys apps drew draws records old new p p.end
