-- A run on devices that do not fail.
use Rattle.std.specs.Prelude.{ℕ, ◌≡◌, List, [], ◌∷◌}
use Rattle.disk_model.specs.State.{FileState}
use Rattle.hmac_keys.specs.declared.Keys.{Keys}
use Rattle.rpmb_card.specs.Port.{PortState}
use Rattle.script_text.specs.declared.script.Control.TheVariants.{Arm as ArmControl}
use Rattle.script_text.specs.declared.script.Mode.{Mode}
use Rattle.script_text.specs.declared.script.Step.{Step}
use Rattle.run_acts.specs.Benches.{BenchState}
use Rattle.run_acts.specs.Opens.{OpensBench}
use Rattle.run_acts.specs.Phases.{RunsPhase}
use Rattle.run_acts.specs.Quiet.{IsPhaseOfMachine, IsQuiet}
use Rattle.run_acts.specs.Untainted.{AreUntainted}
use Rattle.script_runner.specs.Records.{EachAct, OfPhase, RunRecord, acts_in}
use Rattle.script_runner.specs.Text.{Act, Do, PhaseRecord}
use Rattle.script_runner.specs.Course.{Goes}
use Rattle.script_runner.specs.SavedFiles.{Standing, begins_with}

-- none of these acts arms a fault
abbrev pub ArmNothing : List Act → Type 0
ArmNothing [] = Unit {0}
ArmNothing (Do (ArmControl arm) ∷ acts) = ⊥
ArmNothing (act ∷ acts) = ArmNothing acts

module _ {F R : Type 0} (of_file : F → FileState) (of_port : R → PortState) (image : FileState → ℕ → ℕ → List ℕ) (Reliable : Type 0) (keys : Keys) (applications : List (List ℕ)) where
  -- A phase is the machine's.
  pub record IsOfMachine (mode : Mode) (calls : List Step) (phase : PhaseRecord) (before behind : Standing) : Type 0 where
    pub runs : RunsPhase of_file of_port Reliable keys applications before.quotas before.arms mode calls before.bench behind.bench phase.opening phase.events phase.refused
    pub is : IsPhaseOfMachine of_file of_port Reliable keys applications before.quotas before.arms mode calls before.bench behind.bench phase.opening phase.events phase.refused runs

  -- Over a quiet bench of which no file is tainted, with a generator that never fails, each phase of acts that arm nothing is the machine's, and
  -- the bench is quiet behind them; files may be put back and struck between the phases.
  abbrev pub QuietRunsAreOfMachine : Type 0
  QuietRunsAreOfMachine =
      (records : List RunRecord) (old new : Standing) → Goes of_file of_port image Reliable keys applications records old new → AreUntainted (old.bench).files
      → old.arms ≡ [] → ArmNothing (acts_in records) → IsQuiet keys old.bench → Reliable
      → EachAct (λ done. OfPhase IsOfMachine) [] records × IsQuiet keys new.bench

  -- So of such a bench before it was opened, whether its store was found or it was formatted.
  abbrev pub OpenedRunsAreOfMachine : Type 0
  OpenedRunsAreOfMachine =
      (records : List RunRecord) (first old : BenchState) (new : Standing) → OpensBench keys first old
      → AreUntainted first.files → IsQuiet keys first → Goes of_file of_port image Reliable keys applications records (begins_with old) new → ArmNothing (acts_in records) → Reliable
      → EachAct (λ done. OfPhase IsOfMachine) [] records × IsQuiet keys new.bench
