-- What a run records of its acts.
use Rattle.std.specs.Prelude.{List, [], ◌∷◌, ◌++◌, map}
use Rattle.run_acts.specs.Benches.{BenchState}
use Rattle.script_text.specs.declared.script.Mode.{Mode}
use Rattle.script_text.specs.declared.script.Step.{Step}
use Rattle.script_runner.specs.SavedFiles.{Standing}
use Rattle.script_runner.specs.Text.{Act, ActOutcome, PhaseRecord, Ran, Serve}

-- What is recorded of an act that was begun: what came of it, and where the run stood before it and behind it.
pub record RunRecord : Type 0 where
  pub act : Act
  pub outcome : ActOutcome
  pub before : Standing
  pub behind : Standing

abbrev pub acts_in : List RunRecord → List Act
acts_in records = map (λ r. r.act) records

abbrev pub outcomes_in : List RunRecord → List ActOutcome
outcomes_in records = map (λ r. r.outcome) records

-- It holds of the bench in front of each of these acts, and of the one that is given back. `P` takes what was recorded down to there.
abbrev pub EachBench : (P : List RunRecord → BenchState → Type 0) → (done records : List RunRecord) → (given : BenchState) → Type 0
EachBench P done [] given = P done given
EachBench P done (r ∷ records) given = P done (r.before).bench × EachBench P (done ++ r ∷ []) records given

-- It holds of each of these acts, behind those that were done.
abbrev pub EachAct : (P : List RunRecord → RunRecord → Type 0) → (done records : List RunRecord) → Type 0
EachAct P done [] = Unit {0}
EachAct P done (r ∷ records) = P done r × EachAct P (done ++ r ∷ []) records

-- where the act is a phase that was run, that holds of it
abbrev pub IfPhase : (P : Mode → List Step → PhaseRecord → (before behind : Standing) → Type 0) → Act → ActOutcome → (before behind : Standing) → Type 0
IfPhase P (Serve mode calls) (Ran phase) before behind = P mode calls phase before behind
IfPhase P act outcome before behind = Unit {0}

abbrev pub OfPhase : (P : Mode → List Step → PhaseRecord → (before behind : Standing) → Type 0) → RunRecord → Type 0
OfPhase P r = IfPhase P r.act r.outcome r.before r.behind
