-- What the next act of a run needs.
use Rattle.std.specs.Prelude.{◌≡◌, ◌≤◌, ◌+◌, List, [], ◌∷◌, drop, length, true, All, vec_len}
use Rattle.tee_types.specs.Limits.{file_count}
use Rattle.script_text.specs.declared.script.Step.{Step}
use Rattle.script_text.specs.Script.{ScriptValue, is_call}
use Rattle.script_text.specs.Laws.{IsArm, IsFormed}
use Rattle.script_runner.specs.declared.run_state.Run.{Run}

-- What each act needs of the script.
pub record IsSound (script : ScriptValue) : Type 0 where
  pub few : length script.steps ≤ 16777216
  pub few_applications : length script.applications ≤ 16
  pub formed : All IsFormed script.steps

-- What the next act needs of a run that has done the steps in front: it has had no more phases than those.
pub record IsReady {F R : Type 0} (script : ScriptValue) (run : Run F R) : Type 0 where
  pub within : run.at ≤ length script.steps
  pub phases : run.number ≤ run.at
  pub arms : All IsArm run.arms.items
  pub whole : vec_len run.bench.files ≡ file_count

-- the first of these steps is a call
abbrev pub IsCallFirst : List Step → Type 0
IsCallFirst [] = ⊥
IsCallFirst (step ∷ steps) = is_call step ≡ true

-- The step is the next one.
abbrev pub IsNext : {F R : Type 0} → ScriptValue → Run F R → Step → Type 0
IsNext script run step = drop run.at script.steps ≡ step ∷ drop (run.at + 1) script.steps
