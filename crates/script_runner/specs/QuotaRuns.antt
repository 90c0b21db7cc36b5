-- A run under quotas.
use Rattle.std.specs.Prelude.{ℕ, ◌≢◌, List, []}
use Rattle.disk_model.specs.State.{FileState}
use Rattle.hmac_keys.specs.declared.Keys.{Keys}
use Rattle.rpmb_card.specs.Port.{PortState}
use Rattle.app_quota.specs.Quotas.{limit_of}
use Rattle.core_laws.specs.Answered.{AreAnswered}
use Rattle.core_laws.specs.Stores.{objects_under, phase_of, start_under}
use Rattle.core_laws.specs.TamperScenarios.{TamperScenario}
use Rattle.script_text.specs.declared.script.Mode.{Mode}
use Rattle.script_text.specs.declared.script.Step.{Step}
use Rattle.store_model.specs.Legal.{IsLegalFrom}
use Rattle.run_acts.specs.Phases.{RunsPhase}
use Rattle.run_acts.specs.QuotaLaws.{AreIsolated}
use Rattle.script_runner.specs.Course.{AreActs}
use Rattle.script_runner.specs.Records.{EachAct, OfPhase, RunRecord}
use Rattle.script_runner.specs.SavedFiles.{Standing}
use Rattle.script_runner.specs.Text.{PhaseRecord}

module _ {F R : Type 0} (of_file : F → FileState) (of_port : R → PortState) (image : FileState → ℕ → ℕ → List ℕ) (Reliable : Type 0) (keys : Keys) (applications : List (List ℕ)) where
  -- In a phase with a quota, its applications are isolated under each tamper scenario under which its history is answered, and legal.
  pub record IsolatesApplications (mode : Mode) (calls : List Step) (phase : PhaseRecord) (before behind : Standing) : Type 0 where
    pub runs : RunsPhase of_file of_port Reliable keys applications before.quotas before.arms mode calls before.bench behind.bench phase.opening phase.events phase.refused
    pub isolates : (scenario : TamperScenario) → before.quotas ≢ [] → AreAnswered (runs.serves).store scenario (((runs.serves).closes).view).all
        → IsLegalFrom scenario.tampered (start_under (runs.serves).store scenario) (((runs.serves).closes).view).all
        → AreIsolated (limit_of before.quotas) scenario.tampered (phase_of (runs.serves).store) (objects_under (runs.serves).store scenario) (((runs.serves).closes).view).all calls phase.refused

  -- So does each phase of a run, under the quotas that were set before it.
  abbrev pub QuotaRunsIsolate : Type 0
  QuotaRunsIsolate =
      (drew draws : ℕ) (records : List RunRecord) (old new : Standing) → AreActs of_file of_port image Reliable keys applications drew draws records old new
      → EachAct (λ done. OfPhase IsolatesApplications) [] records
