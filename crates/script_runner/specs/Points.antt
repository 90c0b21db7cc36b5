-- The points of a run, between two acts.
use Rattle.std.specs.Prelude.{ℕ, ◌+◌, List, [], ◌∷◌, drop, Option}
use Rattle.disk_model.specs.State.{FileState}
use Rattle.rpmb_card.specs.Port.{PortState}
use Rattle.app_quota.specs.declared.quotas.Quota.{Quota}
use Rattle.script_text.specs.declared.script.Arm.{Arm}
use Rattle.script_text.specs.declared.script.Mode.{Mode}
use Rattle.script_text.specs.declared.script.Step.{Step}
use Rattle.script_text.specs.Script.{ScriptValue}
use Rattle.run_acts.specs.Benches.{BenchState, bench_state}
use Rattle.script_runner.specs.declared.run_state.Run.{Run}
use Rattle.script_runner.specs.SavedFiles.{Saved, Standing, saved_of}
use Rattle.script_runner.specs.Text.{Act, Do, Serve}

-- a point in a run, between two acts
pub record Point : Type 0 where
  -- what the sink holds, and the text that was not put yet
  pub held : Option (List ℕ)
  pub kept : List ℕ
  pub bench : BenchState
  -- what was saved of its files, and the quotas of the phases to come
  pub saved : Saved
  pub quotas : List Quota
  -- the steps that are still to be done
  pub steps : List Step
  -- the arms that wait, and the number and the mode of the next phase
  pub arms : List Arm
  pub number : ℕ
  pub mode : Mode

abbrev pub point_of : {F R : Type 0} → (F → FileState) → (R → PortState) → ScriptValue → (held : Option (List ℕ)) → Run F R → Point
point_of of_file of_port script held run = record {
  held = held;
  kept = run.kept.items;
  bench = bench_state of_file of_port run.bench;
  saved = saved_of run.saved;
  quotas = run.quotas.items;
  steps = drop run.at script.steps;
  arms = run.arms.items;
  number = run.number;
  mode = run.mode;
}

-- where the run stands there
abbrev pub standing_at : Point → Standing
standing_at p = record { bench = p.bench; saved = p.saved; quotas = p.quotas; arms = p.arms }

abbrev pub standing_of : {F R : Type 0} → (F → FileState) → (R → PortState) → Run F R → Standing
standing_of of_file of_port run = record { bench = bench_state of_file of_port run.bench; saved = saved_of run.saved; quotas = run.quotas.items; arms = run.arms.items }

-- how many of these acts are phases
abbrev pub phases_in : List Act → ℕ
phases_in [] = 0
phases_in (Serve mode calls ∷ acts) = 1 + phases_in acts
phases_in (Do control ∷ acts) = phases_in acts
