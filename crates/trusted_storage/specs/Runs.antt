-- A run of a script, phase after phase, as its records tell it.
use Rattle.std.specs.Prelude.{◌≡◌, ◌≢◌, ◌++◌, ℕ, All, AllPairs, List, [], ◌∷◌, None, Ok, Option, Some, slice_get}
use Rattle.app_quota.specs.declared.quotas.Quota.{Quota}
use Rattle.disk_model.specs.Faults.{Rose}
use Rattle.disk_model.specs.State.{FileState}
use Rattle.hmac_keys.specs.declared.Keys.{Keys}
use Rattle.rpmb_card.specs.Port.{PortState}
use Rattle.run_acts.specs.QuotaRefusals.{ComesBefore, admitted}
use Rattle.run_acts.specs.ServedSteps.{ServesSteps}
use Rattle.script_runner.specs.declared.status.Status.{Status}
use Rattle.script_runner.specs.RunCauses.{World}
use Rattle.script_runner.specs.SavedFiles.{quota_for}
use Rattle.script_runner.specs.Runs.{RunsSource}
use Rattle.script_runner.specs.Text.{Controlled, Do, Listed, Ran, Serve, stop_of}
use Rattle.script_text.specs.declared.script.Arm.TheVariants.{Taint}
use Rattle.script_text.specs.declared.script.Control.TheVariants.{Arm, List as ListControl, Quota as QuotaControl}
use Rattle.script_text.specs.declared.script.Mode.{Mode}
use Rattle.script_text.specs.declared.script.Step.{Step}
use Rattle.script_text.specs.declared.script.Step.TheVariants.{Call as CallStep}
use Rattle.script_text.specs.Grammar.{script_of}
use Rattle.script_text.specs.Script.{ScriptValue}
use Rattle.trusted_storage.specs.Benches.{BeginsWith, Holds}
use Rattle.trusted_storage.specs.Commits.{ReplayState}
use Rattle.trusted_storage.specs.Devices.{BenchState, IsWhole}
use Rattle.tee_types.specs.declared.call.Call.{Call}
pub use Rattle.script_runner.specs.RecordLaws.{AlterNothing, FindLeft, left_behind}
pub use Rattle.script_runner.specs.RunLaws.{RefusedByDevices}
pub use Rattle.script_runner.specs.HeldRuns.{NoneStarved}
pub use Rattle.script_runner.specs.Records.{EachAct, EachBench, OfPhase, RunRecord, acts_in, outcomes_in}
pub use Rattle.script_runner.specs.Text.{Act, ActOutcome, PhaseRecord}
pub use Rattle.script_runner.specs.Trace.{applications_of, script_acts}

-- what a source and a sink did in a run: whether the count of faults of each rose, whether the source has ended, and whether the sink is full
abbrev pub streams_of : {S K : Type 0} → (source_faults : S → ℕ) → (has_ended : S → Type 0) → (sink_faults : K → ℕ) → (is_full : K → Type 0) → (was source : S) → (held sink : K) → World
streams_of source_faults has_ended sink_faults is_full was source held sink = record {
  source_failed = Rose (source_faults was) (source_faults source);
  source_ended = has_ended source;
  sink_failed = Rose (sink_faults held) (sink_faults sink);
  sink_full = is_full sink;
}

module _ {F R : Type 0} (of_file : F → FileState) (of_port : R → PortState) (image : FileState → ℕ → ℕ → List ℕ) (Reliable : Type 0) (w : World) where
  -- A call of `run` in the form `run`, and what its contract says of it: `says` is its clause `run`, and `whole` its clause `whole`.
  pub record RunCall : Type 0 where
    pub keys : Keys
    -- the bench that was handed in, and the one that was given back
    pub handed : BenchState
    pub given : BenchState
    pub status : Status
    -- what the source had left and the sink held, before and behind
    pub left_old : Option (List ℕ)
    pub left_new : Option (List ℕ)
    pub held_old : Option (List ℕ)
    pub held_new : Option (List ℕ)
    -- how many faults the generator of nonces had counted, before and behind
    pub drew : ℕ
    pub draws : ℕ
    pub says : RunsSource of_file of_port image Reliable left_old left_new held_old held_new w drew draws keys handed given status
    pub whole : IsWhole given

module _ {F R : Type 0} {of_file : F → FileState} {of_port : R → PortState} {image : FileState → ℕ → ℕ → List ℕ} {Reliable : Type 0} {w : World} where
  -- what it recorded of its acts, in order
  abbrev pub records_of : RunCall of_file of_port image Reliable w → List RunRecord
  records_of c = (c.says.0).records

  -- it opened the bench
  abbrev pub HasOpened : RunCall of_file of_port image Reliable w → Type 0
  HasOpened c = (c.says.0).start ≡ None

  -- it took this script
  abbrev pub TookScript : RunCall of_file of_port image Reliable w → ScriptValue → Type 0
  TookScript c script = script_of (c.says.0).taken ≡ Ok script

-- the quotas that these acts set
abbrev pub quotas_in : List Act → List Quota
quotas_in [] = []
quotas_in (Do (QuotaControl app objects bytes) ∷ acts) = quota_for app objects bytes ∷ quotas_in acts
quotas_in (act ∷ acts) = quotas_in acts

module _ {F R : Type 0} {of_file : F → FileState} {of_port : R → PortState} {image : FileState → ℕ → ℕ → List ℕ} {Reliable : Type 0} {w : World} where
  -- It holds of each phase that was run. `P` takes the benches before it and behind it, its quotas, which the acts before it set, its mode, its calls,
  -- and what was recorded of it.
  abbrev pub EachPhase : (c : RunCall of_file of_port image Reliable w) → (P : (before behind : BenchState) → List Quota → Mode → List Step → PhaseRecord → Type 0) → Type 0
  EachPhase c P = EachAct (λ done. OfPhase (λ mode calls phase before behind. P before.bench behind.bench (quotas_in (acts_in done)) mode calls phase)) [] (records_of c)

-- That came of such an act: a phase was run, a list shows objects, or another control was done; or the run stopped at it.
abbrev pub CameOf : Act → ActOutcome → Type 0
CameOf (Serve mode calls) (Ran phase) = Unit {0}
CameOf (Do control) (Listed objects) = control ≡ ListControl
CameOf (Do control) Controlled = control ≢ ListControl
CameOf act stop = stop_of (stop ∷ []) ≡ Some stop

-- What was recorded is of the first acts of the script, in order; and the run stopped at none but the last of them.
pub record AreOfScript (script : ScriptValue) (records : List RunRecord) : Type 0 where
  pub left : List Act
  pub acts_are : script_acts script ≡ acts_in records ++ left
  pub each : EachAct (λ done r. CameOf r.act r.outcome × (stop_of (outcomes_in done) ≡ None)) [] records

-- A phase has the calls of its act, each once: as events, those of each application in their order, and in a serial phase all of them; or as calls
-- that were refused under quotas, those of the first application first, and of each in their order.
pub record IsServed (quotas : List Quota) (mode : Mode) (calls : List Step) (phase : PhaseRecord) : Type 0 where
  pub events : ServesSteps mode (admitted phase.refused calls) phase.events
  pub refused : All (λ r. (app : ℕ) × (call : Call) × (slice_get calls r.step ≡ Some (CallStep app call))) phase.refused
  pub in_order : AllPairs (ComesBefore calls) phase.refused
  -- without quotas none is refused
  pub unrefused : quotas ≡ [] → phase.refused ≡ []

-- the act lays no mask over a file in a phase: each file stays honest, though it may be altered between two phases
abbrev pub TaintsNothing : Act → Type 0
TaintsNothing (Do (Arm (Taint file call at mask))) = ⊥
TaintsNothing act = Unit {0}

-- so each of these acts
abbrev pub TaintNothing : List Act → Type 0
TaintNothing [] = Unit {0}
TaintNothing (act ∷ acts) = TaintsNothing act × TaintNothing acts

-- behind an act the bench holds that, and before the first one it may be blank still
abbrev pub HoldsBehind : Keys → (applications : List (List ℕ)) → (done : List Act) → BenchState → ReplayState → Type 0
HoldsBehind keys applications [] bench s = BeginsWith keys applications bench s
HoldsBehind keys applications (act ∷ done) bench s = Holds keys bench s
