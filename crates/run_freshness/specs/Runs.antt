-- Freshness of a run, whatever its script did to the files of the bench.
use Rattle.std.specs.Prelude.{ℕ, ◌≡◌, ◌⊎◌, List, None, Option, Some}
use Rattle.disk_model.specs.State.{FileState}
use Rattle.hmac_keys.specs.declared.Keys.{Keys}
use Rattle.rpmb_card.specs.Port.{PortState}
use Rattle.run_acts.specs.Benches.{BenchState}
use Rattle.run_acts.specs.Opens.{OpensBench, found, made}
use Rattle.script_runner.specs.declared.status.Status.{Status}
use Rattle.script_runner.specs.Ending.{Opened}
use Rattle.script_runner.specs.RunCauses.{World}
use Rattle.script_runner.specs.Runs.{RunsSource}
use Rattle.script_runner.specs.Trace.{IsUntouched, OfScript, Trace, applications_of}
use Rattle.run_freshness.specs.Course.{AreFresh, HasItsCard}

-- the bench that was closed last before the first act: the one that was formatted, if one was; else the one from before the run, if there is one
abbrev pub closed_at_first : {keys : Keys} {handed between : BenchState} → (closed : Option BenchState) → OpensBench keys handed between → Option BenchState
closed_at_first closed (found block some read) = closed
closed_at_first {between = between} closed (made block zeroed blank read forms) = Some between

module _ {F R : Type 0} (of_file : F → FileState) (of_port : R → PortState) (image : FileState → ℕ → ℕ → List ℕ) (Reliable : Type 0) where
  -- Each mount and each list of a run is fresh beside the bench that was closed last before it, unless nothing was done. A bench that was not opened
  -- shows nothing.
  abbrev pub IsFreshRun : Keys → (closed : Option BenchState) → (drew draws : ℕ) → Trace → (handed given : BenchState) → Type 0
  IsFreshRun keys closed drew draws t handed given =
      t.start ≡ None → IsUntouched t handed given
      ⊎ OfScript t.taken (λ script. (o : Opened of_file of_port image Reliable drew draws keys (applications_of script) t.start t.records handed given)
      × AreFresh of_file of_port Reliable keys (applications_of script) (closed_at_first closed o.opens) t.records given)

  -- Whatever the words of a script did, and whatever was done to the bench since it was closed before the run, if it was: each mount and each
  -- list of the run is fresh, at whatever status it ended.
  abbrev pub RunsAreFresh : World → Type 0
  RunsAreFresh w =
      (left_old left_new held_old held_new : Option (List ℕ)) (drew draws : ℕ) (keys : Keys) (closed : Option BenchState) (handed given : BenchState) (status : Status)
      → HasItsCard closed handed → (r : RunsSource of_file of_port image Reliable left_old left_new held_old held_new w drew draws keys handed given status)
      → IsFreshRun keys closed drew draws r.0 handed given
