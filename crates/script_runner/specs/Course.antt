-- How a bench goes through the acts of a script, with what was saved of its files, the quotas that were set, and the arms that wait.
use Rattle.std.specs.Prelude.{ℕ, ◌≡◌, ◌⊎◌, List, [], ◌∷◌}
use Rattle.disk_model.specs.State.{FileState}
use Rattle.hmac_keys.specs.declared.Keys.{Keys}
use Rattle.rpmb_card.specs.Port.{PortState}
use Rattle.script_text.specs.declared.script.Control.{Control}
use Rattle.script_text.specs.declared.script.Control.TheVariants.{Arm as ArmControl, Crash, Flip, List as ListControl, Mode as ModeControl, Phase, Quota as QuotaControl, Restore, Save}
use Rattle.run_acts.specs.Lines.{objects_text}
use Rattle.run_acts.specs.Alterations.{FlipsFile, file_number}
use Rattle.run_acts.specs.Benches.{BenchState, IsWhole}
use Rattle.run_acts.specs.Crashes.{Crashes, CrashesInPart}
use Rattle.run_acts.specs.ListedBenches.{IsListRefused, ListsBench}
use Rattle.run_acts.specs.PhaseOutcomes.{OverCommits}
use Rattle.run_acts.specs.Phases.{RunsPhase}
use Rattle.run_acts.specs.PhaseRefusals.{IsGivenUp}
use Rattle.run_acts.specs.QuotaRefusals.{HoldsOfAdmitted}
use Rattle.script_runner.specs.Records.{RunRecord}
use Rattle.script_runner.specs.SavedFiles.{RestoresSaved, Standing, awaits_arm, quota_for, saves_files, served, sets_quota, with_bench}
use Rattle.script_runner.specs.Text.{Act, ActOutcome, Controlled, CutShort, Do, Exceeded, Listed, Ran, Refused, Serve}

-- the bench alone changed, so
abbrev pub ChangesBench : (Changes : (old new : BenchState) → Type 0) → (old new : Standing) → Type 0
ChangesBench Changes old new = Changes old.bench new.bench × (new ≡ with_bench old new.bench)

-- `image` is what a crash leaves of a file, by the seed and the file's number; `Reliable` says that the generator of the run never fails
module _ {F R : Type 0} (of_file : F → FileState) (of_port : R → PortState) (image : FileState → ℕ → ℕ → List ℕ) (Reliable : Type 0) (keys : Keys) (applications : List (List ℕ)) where
  -- A control was done that is no list. An arm waits for the next phase. What is saved of the files is kept under its mark. A quota is one of all
  -- phases to come.
  abbrev pub DoesControl : Control → (old new : Standing) → Type 0
  DoesControl (ModeControl mode) old new = new ≡ old
  DoesControl Phase old new = new ≡ old
  DoesControl (ArmControl arm) old new = new ≡ awaits_arm arm old
  DoesControl (Crash seed) old new = ChangesBench (Crashes image seed) old new
  DoesControl (Save mark) old new = new ≡ saves_files mark old
  DoesControl (QuotaControl app objects bytes) old new = new ≡ sets_quota (quota_for app objects bytes) old
  DoesControl (Restore file mark) old new = ChangesBench (λ was is. RestoresSaved file mark old is) old new
  DoesControl (Flip file at mask) old new = ChangesBench (FlipsFile (file_number file) at mask) old new
  DoesControl ListControl old new = ⊥

  -- An act was done, of which this came. A phase is run with the arms that wait, and none is left.
  abbrev pub Does : Act → ActOutcome → (old new : Standing) → Type 0
  Does (Serve mode calls) (Ran phase) old new =
      RunsPhase of_file of_port Reliable keys applications old.quotas old.arms mode calls old.bench new.bench phase.opening phase.events phase.refused × (new ≡ served old new.bench)
  Does (Do control) (Listed objects) old new = (control ≡ ListControl) × ChangesBench (λ was is. ListsBench of_file of_port keys was is objects (objects_text objects)) old new
  Does (Do control) Controlled old new = DoesControl control old new
  Does act outcome old new = ⊥

  -- The run stopped at an act, of which this came. The generator of nonces had counted `drew` faults before the run, and `draws` then.
  abbrev pub StopsAt : (drew draws : ℕ) → Act → ActOutcome → (old new : Standing) → Type 0
  StopsAt drew draws (Serve mode calls) (Refused fault) old new =
      ChangesBench (λ was is. HoldsOfAdmitted old.quotas calls (λ steps. IsGivenUp of_file of_port keys applications old.arms mode steps was is drew draws fault)) old new
  StopsAt drew draws (Serve mode calls) (Exceeded sum) old new = ChangesBench (λ was is. OverCommits of_file of_port keys applications old.quotas was is sum × IsWhole is) old new
  StopsAt drew draws (Do control) (Refused fault) old new = (control ≡ ListControl) × ChangesBench (λ was is. IsListRefused of_file of_port keys was is drew draws fault) old new
  StopsAt drew draws (Do control) CutShort old new = (seed : ℕ) × (control ≡ Crash seed) × ChangesBench (CrashesInPart image seed) old new
  StopsAt drew draws act outcome old new = ⊥

  abbrev pub IsDone : RunRecord → Type 0
  IsDone r = Does r.act r.outcome r.before r.behind

  -- Acts were done as these records tell, one after another.
  abbrev pub Goes : List RunRecord → (old new : Standing) → Type 0
  Goes [] old new = new ≡ old
  Goes (r ∷ records) old new = (r.before ≡ old) × IsDone r × Goes records r.behind new

  module _ (drew draws : ℕ) where
    -- The act was done; or the run stopped at it, and began no other.
    abbrev pub IsAct : RunRecord → (later : List RunRecord) → Type 0
    IsAct r later = IsDone r ⊎ (StopsAt drew draws r.act r.outcome r.before r.behind × (later ≡ []))

    -- The acts of a run: each begins where the one before it ended.
    abbrev pub AreActs : List RunRecord → (old new : Standing) → Type 0
    AreActs [] old new = new ≡ old
    AreActs (r ∷ records) old new = (r.before ≡ old) × IsAct r records × AreActs records r.behind new
