-- What a phase comes to, where its bench is mounted and memory does not run out.
use Rattle.std.specs.Prelude.{◌≡◌, ◌≢◌, ◌<◌, ℕ, List, [], length}
use Rattle.disk_model.specs.State.{FileState}
use Rattle.hmac_keys.specs.declared.Keys.{Keys}
use Rattle.rpmb_card.specs.Port.{PortState}
use Rattle.app_quota.specs.Commitments.{committed_objects, distinct_apps}
use Rattle.app_quota.specs.Quotas.{limit_of}
use Rattle.app_quota.specs.declared.quotas.Quota.{Quota}
use Rattle.store_model.specs.Object.{ObjectMap, most_objects}
use Rattle.script_text.specs.declared.script.Arm.{Arm}
use Rattle.script_text.specs.declared.script.Mode.{Mode}
use Rattle.script_text.specs.declared.script.Step.{Step}
use Rattle.object_calls.specs.declared.bench.Bench.{Bench}
use Rattle.object_calls.specs.Opening.{OpeningValue}
use Rattle.run_acts.specs.Benches.{BenchState, HasPassed, KeepsDevices, bench_state, opening_state}
use Rattle.run_acts.specs.Between.{AreSound}
use Rattle.run_acts.specs.MountedDevices.{IsMounted, objects_in}
use Rattle.run_acts.specs.Phases.{RunsPhase}
use Rattle.run_acts.specs.declared.phase.PhaseOutcome.{PhaseOutcome}
use Rattle.run_acts.specs.declared.phase.PhaseOutcome.TheVariants.{OverCommitted, Served}

-- the bench that a phase gives back
abbrev pub bench_left : {F R : Type 0} → PhaseOutcome F R → Bench F R
bench_left (Served end) = end.bench
bench_left (OverCommitted bench sum) = bench

module _ {F R : Type 0} (of_file : F → FileState) (of_port : R → PortState) where
  -- The quotas commit more objects than a store has room for, so many: the bench was mounted, and closed with nothing armed and nothing served.
  pub record OverCommits (keys : Keys) (applications : List (List ℕ)) (quotas : List Quota) (old new : BenchState) (sum : ℕ) : Type 0 where
    pub opened : OpeningValue F R
    pub mounts : IsMounted of_file of_port keys old opened
    -- what holds of every file
    pub sound : AreSound old.files
    -- the mount changed no bytes, and no call of it failed
    pub keeps : KeepsDevices old new
    pub passed : HasPassed old new
    pub closed : new ≡ opening_state of_file of_port opened
    pub some : quotas ≢ []
    pub sum_is : sum ≡ committed_objects (limit_of quotas) (distinct_apps applications) (objects_in of_file of_port keys opened)
    pub over : most_objects < sum

  -- The phase was run, from so many objects; or its quotas are over-committed.
  abbrev pub EndsPhase : (Reliable : Type 0) → Keys → (applications : List (List ℕ)) → (quotas : List Quota) → List Arm → Mode → (calls : List Step) → (old : BenchState) → PhaseOutcome F R → Type 0
  EndsPhase Reliable keys applications quotas arms mode calls old (Served end) =
      (opening : ObjectMap) × (length opening ≡ end.objects)
      × RunsPhase of_file of_port Reliable keys applications quotas arms mode calls old (bench_state of_file of_port end.bench) opening end.history.events end.refused.items
  EndsPhase Reliable keys applications quotas arms mode calls old (OverCommitted bench sum) = OverCommits keys applications quotas old (bench_state of_file of_port bench) sum
