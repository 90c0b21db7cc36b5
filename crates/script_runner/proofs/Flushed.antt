-- A run whose acts were all done, and whose last text was put or not.
use Rattle.std.proofs.Common.{◌≤◌, ℕ, List, [], refl, Option, drop, length}
use Rattle.std.proofs.lemmas.List.{drop_all}
use Rattle.disk_model.specs.State.{FileState}
use Rattle.hmac_keys.specs.declared.Keys.{Keys}
use Rattle.rpmb_card.specs.Port.{PortState}
use Rattle.script_text.specs.Script.{ScriptValue}
use Rattle.run_acts.specs.Benches.{bench_state}
use Rattle.script_runner.specs.declared.status.Status.{Status}
use Rattle.script_runner.specs.declared.status.Status.TheVariants.{Done, WriteFault}
use Rattle.script_runner.specs.Sending.{IsWriteError, Stops}
use Rattle.script_runner.specs.declared.run_state.Run.{Run}
use Rattle.script_runner.specs.Text.{acts_of}
use Rattle.script_runner.specs.Points.{point_of, standing_of}
use Rattle.script_runner.specs.Running.{EndsFrom}
use Rattle.script_runner.specs.Prints.{PrintsLines}
use Rattle.script_runner.proofs.Endings.{EndsFrom-done, EndsFrom-text}

module _ {F R : Type 0} (of_file : F → FileState) (of_port : R → PortState) (image : FileState → ℕ → ℕ → List ℕ) (Reliable : Type 0) (drew draws : ℕ) (keys : Keys) (script : ScriptValue) (failed : Type 0) (held_old held_new : Option (List ℕ)) (run : Run F R) (all : length script.steps ≤ run.at) where
  abbrev Ends : Status → Type 0
  Ends status = EndsFrom of_file of_port image Reliable drew draws keys script failed (point_of of_file of_port script held_old run) held_new (bench_state of_file of_port run.bench) status

  not_put : (status : Status) → Stops held_old held_new run.kept.items [] → IsWriteError failed status → Ends status
  not_put status stops error =
      EndsFrom-text of_file of_port image Reliable drew draws keys script failed (point_of of_file of_port script held_old run) held_new (standing_of of_file of_port run) [] (acts_of run.mode (drop run.at script.steps)) status refl refl stops error

  pub EndsFrom-printed : (status : Status) → PrintsLines failed held_old held_new run.kept.items status → Ends status
  EndsFrom-printed Done t = EndsFrom-done of_file of_port image Reliable drew draws keys script failed (point_of of_file of_port script held_old run) held_new (drop_all run.at script.steps all) t
  EndsFrom-printed WriteFault t = not_put WriteFault t.1 t.0
  EndsFrom-printed status t = absurd t
