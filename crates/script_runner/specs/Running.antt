-- A run, act after act, and its end.
use Rattle.std.specs.Prelude.{ℕ, ◌≡◌, ◌+◌, ◌<◌, List, ◌++◌, Option, vec_len}
use Rattle.disk_model.specs.State.{FileState}
use Rattle.hmac_keys.specs.declared.Keys.{Keys}
use Rattle.tee_types.specs.Limits.{file_count}
use Rattle.rpmb_card.specs.Port.{PortState}
use Rattle.script_text.specs.Script.{ScriptValue}
use Rattle.run_acts.specs.declared.MountFault.{MountFault}
use Rattle.tee_ports.specs.Streams.{Appends}
use Rattle.run_acts.specs.Benches.{BenchState, bench_state}
use Rattle.script_runner.specs.declared.status.Status.{Status}
use Rattle.script_runner.specs.Sending.{Begins, Sends}
use Rattle.script_runner.specs.declared.run_state.Run.{Run}
use Rattle.script_runner.specs.declared.run_state.RunEnd.{RunEnd}
use Rattle.script_runner.specs.Text.{Act, ActOutcome, acts_of, acts_text, run_output, run_stop, stop_of}
use Rattle.script_runner.specs.Trace.{applications_of, script_acts}
use Rattle.script_runner.specs.Course.{Goes}
use Rattle.script_runner.specs.Ending.{GoesThrough, RunsBench}
use Rattle.script_runner.specs.Points.{Point, phases_in, point_of, standing_at}
use Rattle.script_runner.specs.Records.{RunRecord, acts_in, outcomes_in}
use Rattle.script_runner.specs.RunReady.{IsReady}
use Rattle.script_runner.specs.Prints.{HasActCause}

module _ {F R : Type 0} (of_file : F → FileState) (of_port : R → PortState) (image : FileState → ℕ → ℕ → List ℕ) (Reliable : Type 0) where
  -- Acts were done between the two points; their text was put, or is kept.
  pub record Advances (keys : Keys) (script : ScriptValue) (old new : Point) : Type 0 where
    pub records : List RunRecord
    pub acts : acts_of old.mode old.steps ≡ acts_in records ++ acts_of new.mode new.steps
    pub goes : Goes of_file of_port image Reliable keys (applications_of script) records (standing_at old) (standing_at new)
    pub number_is : new.number ≡ old.number + phases_in (acts_in records)
    pub sent : Sends old.held new.held old.kept new.kept (acts_text script old.number (acts_in records) (outcomes_in records))

  -- From that point on the run ended with that status.
  pub record EndsFrom (drew draws : ℕ) (keys : Keys) (script : ScriptValue) (failed : Type 0) (old : Point) (held : Option (List ℕ)) (given : BenchState) (status : Status) : Type 0 where
    pub put : List ℕ
    pub records : List RunRecord
    pub left : List Act
    pub appended : Appends old.held held put
    pub begins : Begins put (old.kept ++ acts_text script old.number (acts_of old.mode old.steps) (outcomes_in records))
    pub front : acts_of old.mode old.steps ≡ acts_in records ++ left
    pub goes : GoesThrough of_file of_port image Reliable drew draws keys (applications_of script) records (standing_at old) given
    pub cause : HasActCause failed put (old.kept ++ acts_text script old.number (acts_of old.mode old.steps) (outcomes_in records)) (stop_of (outcomes_in records))
        (acts_in records ≡ acts_of old.mode old.steps) status

  -- One more act was done.
  pub record GoesOn (keys : Keys) (script : ScriptValue) (held_old held_new : Option (List ℕ)) (run next : Run F R) : Type 0 where
    pub advances : Advances keys script (point_of of_file of_port script held_old run) (point_of of_file of_port script held_new next)
    pub ready : IsReady script next
    pub further : run.at < next.at

  -- The run ended, on a whole bench.
  pub record EndsAt (drew draws : ℕ) (keys : Keys) (script : ScriptValue) (failed : Type 0) (held_old held_new : Option (List ℕ)) (run : Run F R) (end : RunEnd F R) : Type 0 where
    pub ends : EndsFrom drew draws keys script failed (point_of of_file of_port script held_old run) held_new (bench_state of_file of_port end.bench) end.status
    pub whole : vec_len end.bench.files ≡ file_count

  -- A bench was opened, acts were done on it, and their text was put. `output` is the text, by what came of the acts.
  pub record RunsActs (drew draws : ℕ) (keys : Keys) (applications : List (List ℕ)) (acts : List Act) (output : Option MountFault → List ActOutcome → List ℕ) (failed : Type 0) (held_old held_new : Option (List ℕ)) (handed given : BenchState) (status : Status) : Type 0 where
    pub put : List ℕ
    pub start : Option MountFault
    pub records : List RunRecord
    pub appended : Appends held_old held_new put
    pub begins : Begins put (output start (outcomes_in records))
    pub bench : RunsBench of_file of_port image Reliable drew draws keys applications acts start records handed given
    pub cause : HasActCause failed put (output start (outcomes_in records)) (run_stop start (outcomes_in records)) (acts_in records ≡ acts) status

  -- The run of a script.
  abbrev pub RunsScript : (drew draws : ℕ) → Keys → ScriptValue → (failed : Type 0) → (held_old held_new : Option (List ℕ)) → (handed given : BenchState) → Status → Type 0
  RunsScript drew draws keys script failed held_old held_new handed given status =
      RunsActs drew draws keys (applications_of script) (script_acts script) (run_output script) failed held_old held_new handed given status
