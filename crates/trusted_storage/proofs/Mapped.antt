-- What holds of each bench of a run, in other words.
use Rattle.std.proofs.Common.{ℕ, List, [], ◌∷◌, ◌++◌, subst}
use Rattle.disk_model.specs.State.{FileState}
use Rattle.hmac_keys.specs.declared.Keys.{Keys}
use Rattle.rpmb_card.specs.Port.{PortState}
use Rattle.run_acts.specs.Benches.{BenchState}
use Rattle.script_runner.proofs.HeldRuns.{runs_hold_left}
use Rattle.script_runner.specs.HeldRuns.{HoldsLeftBehind}
use Rattle.script_runner.specs.RecordLaws.{left_behind}
use Rattle.script_runner.specs.Records.{EachBench, RunRecord, acts_in, outcomes_in}
use Rattle.script_runner.specs.RunCauses.{World}
use Rattle.script_runner.specs.Text.{Act, Serve}
use Rattle.script_runner.specs.Trace.{applications_of}
use Rattle.script_text.specs.Script.{ScriptValue}
use Rattle.store_model.specs.ReplayState.{ReplayState}
use Rattle.trusted_storage.specs.Benches.{BeginsWith, Holds}
use Rattle.trusted_storage.specs.Laws.{CutsBetweenActs, CutsInsidePhases}
use Rattle.trusted_storage.specs.Runs.{HasOpened, HoldsBehind, RunCall, TookScript, records_of}
use Rattle.trusted_storage.proofs.Holding.{of_begins, to_behind}

each_bench-map : (P Q : List RunRecord → BenchState → Type 0) → ((done : List RunRecord) (bench : BenchState) → P done bench → Q done bench) → (done records : List RunRecord) (given : BenchState)
    → EachBench P done records given → EachBench Q done records given
each_bench-map P Q follows done [] given holds = follows done given holds
each_bench-map P Q follows done (r ∷ records) given holds = (follows done (r.before).bench holds.0, each_bench-map P Q follows (done ++ r ∷ []) records given holds.1)

-- behind an act the bench holds what is left
held_behind : (keys : Keys) (apps : List (List ℕ)) (before : List Act) (act : Act) (bench : BenchState) (s : ReplayState) → HoldsBehind keys apps (before ++ act ∷ []) bench s → Holds keys bench s
held_behind keys apps [] act bench s held = held
held_behind keys apps (first ∷ before) act bench s held = held

module _ {F R : Type 0} (of_file : F → FileState) (of_port : R → PortState) (image : FileState → ℕ → ℕ → List ℕ) (Reliable : Type 0) (w : World) where
  pub all_hold : (c : RunCall of_file of_port image Reliable w) (script : ScriptValue) (s : ReplayState) → TookScript c script → HasOpened c → BeginsWith c.keys (applications_of script) c.handed s
      → EachBench (HoldsLeftBehind c.keys (applications_of script) s) [] (records_of c) c.given
  all_hold c script s is opened begins =
      runs_hold_left of_file of_port image Reliable w c.left_old c.left_new c.held_old c.held_new c.drew c.draws c.keys c.handed c.given c.status s script c.says
      (of_begins c.keys (applications_of script) c.handed s begins) is opened c.whole

  pub cuts_between : CutsBetweenActs of_file of_port image Reliable w
  cuts_between c script s is opened begins =
      let apps = applications_of script in
      each_bench-map (HoldsLeftBehind c.keys apps s) _
      (λ done bench held unaltered fed. to_behind c.keys apps (acts_in done) bench (left_behind apps s (outcomes_in done)) (held unaltered fed)) [] (records_of c) c.given (all_hold c script s is opened begins)

  pub cuts_inside : CutsInsidePhases of_file of_port image Reliable w
  cuts_inside c script s is opened begins =
      let apps = applications_of script in
      each_bench-map (HoldsLeftBehind c.keys apps s) _
      (λ done bench held before mode calls same unaltered fed.
      held_behind c.keys apps before (Serve mode calls) bench (left_behind apps s (outcomes_in done))
      (subst (λ (l : List Act). HoldsBehind c.keys apps l bench (left_behind apps s (outcomes_in done))) same
      (to_behind c.keys apps (acts_in done) bench (left_behind apps s (outcomes_in done)) (held unaltered fed)))) [] (records_of c) c.given (all_hold c script s is opened begins)
