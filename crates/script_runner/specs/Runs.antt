-- The run of a script, as `run` tells it.
use Rattle.std.specs.Prelude.{ℕ, List, Option}
use Rattle.disk_model.specs.State.{FileState}
use Rattle.hmac_keys.specs.declared.Keys.{Keys}
use Rattle.rpmb_card.specs.Port.{PortState}
use Rattle.run_acts.specs.Benches.{BenchState}
use Rattle.script_runner.specs.declared.status.Status.{Status}
use Rattle.script_runner.specs.Ending.{EndsBench}
use Rattle.script_runner.specs.RunCauses.{IsRun, World}
use Rattle.script_runner.specs.Trace.{Trace}

module _ {F R : Type 0} (of_file : F → FileState) (of_port : R → PortState) (image : FileState → ℕ → ℕ → List ℕ) (Reliable : Type 0) where
  -- What was taken, put and recorded, what the status means, and what was done to the bench.
  abbrev pub RunsSource : (left_old left_new held_old held_new : Option (List ℕ)) → World → (drew draws : ℕ) → Keys → (handed given : BenchState) → Status → Type 0
  RunsSource left_old left_new held_old held_new w drew draws keys handed given status =
      (t : Trace) × IsRun left_old left_new held_old held_new w handed given status t × EndsBench of_file of_port image Reliable drew draws keys t handed given
