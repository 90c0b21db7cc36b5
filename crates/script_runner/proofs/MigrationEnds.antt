-- A migration that is not disturbed is done, or wants memory.
use Rattle.std.proofs.Common.{ℕ, ◌≡◌, List, ap, subst, None, Option, Some, ◌∙◌}
use Rattle.disk_model.specs.State.{FileState}
use Rattle.hmac_keys.specs.declared.Keys.{Keys}
use Rattle.rpmb_card.specs.Port.{PortState}
use Rattle.run_acts.specs.Benches.{BenchState}
use Rattle.run_acts.specs.declared.MountFault.{MountFault}
use Rattle.run_acts.specs.declared.MountFault.TheVariants.{CardBlock, CardResult, Directory, Failed, Frame, NoMemory as NoMemoryFault, NoStore, OldFormat, Spent}
use Rattle.run_acts.specs.MigrationLaws.{IsUndisturbed}
use Rattle.run_acts.specs.MigratedBenches.{IsBenchNotMoved, starved, stopped, unasked}
use Rattle.run_acts.proofs.MigrationEnds.{moved_benches_are_listed, undisturbed_benches_are_moved}
use Rattle.script_runner.specs.declared.status.Status.{Status}
use Rattle.script_runner.specs.declared.status.Status.TheVariants.{DeviceFault, Done, MountRefused, NoMemory, OverCommitted, WriteFault}
use Rattle.script_runner.specs.MigrationLaws.{MigrationsEnd, MigrationsTellNoOldFile}
use Rattle.script_runner.specs.Migrations.{GivenUp, MigratesThen, MigrationRecord, Shown, Starved, Unlisted, migration_output, told_behind, migration_stop}
use Rattle.script_runner.specs.Prints.{HasActCause}
use Rattle.script_runner.specs.RunRefusals.{IsDeviceFault, IsRefusal}
use Rattle.script_runner.specs.Text.{ActOutcome, CutShort, Exceeded, Refused}
use Rattle.script_runner.specs.RunLaws.{IsDoneOrStarved}

-- a migration that was refused for want of memory
ends_starved : (failed : Type 0) (put text : List ℕ) (fault : MountFault) → fault ≡ NoMemoryFault → (status : Status) → HasActCause failed put text (Some (Refused fault)) (Unit {0}) status → IsDoneOrStarved status
ends_starved failed put text fault is Done cause = tt
ends_starved failed put text fault is NoMemory cause = tt
ends_starved failed put text fault is WriteFault cause = absurd (let no : IsRefusal NoMemoryFault = subst IsRefusal is cause.1 in no)
ends_starved failed put text fault is (MountRefused told) cause =
    let e : ◌≡◌ {A = Option ActOutcome} (Some (Refused fault)) (Some (Refused told)) = cause.1 in
    let same : told ≡ fault = cc in
    absurd (let no : IsRefusal NoMemoryFault = subst IsRefusal (same ∙ is) cause.2 in no)
ends_starved failed put text fault is (DeviceFault told) cause =
    let e : ◌≡◌ {A = Option ActOutcome} (Some (Refused fault)) (Some (Refused told)) = cause.1 in
    let same : told ≡ fault = cc in
    absurd (let no : IsDeviceFault NoMemoryFault = subst IsDeviceFault (same ∙ is) cause.2 in no)
ends_starved failed put text fault is (OverCommitted sum) cause = let no : ◌≡◌ {A = Option ActOutcome} (Some (Refused fault)) (Some (Exceeded sum)) = cause.1 in absurd cc
ends_starved failed put text fault is status cause = absurd cause

-- a run whose text was not cut off
ends_shown : (failed : Type 0) → (failed → ⊥) → (put text : List ℕ) (status : Status) → HasActCause failed put text None (Unit {0}) status → IsDoneOrStarved status
ends_shown failed not put text Done cause = tt
ends_shown failed not put text NoMemory cause = tt
ends_shown failed not put text WriteFault cause = absurd (not cause.0)
ends_shown failed not put text (MountRefused told) cause = let no : ◌≡◌ {A = Option ActOutcome} None (Some (Refused told)) = cause.1 in absurd cc
ends_shown failed not put text (DeviceFault told) cause = let no : ◌≡◌ {A = Option ActOutcome} None (Some (Refused told)) = cause.1 in absurd cc
ends_shown failed not put text (OverCommitted sum) cause = let no : ◌≡◌ {A = Option ActOutcome} None (Some (Exceeded sum)) = cause.1 in absurd cc
ends_shown failed not put text status cause = absurd cause

ends_memory : (failed : Type 0) (put text : List ℕ) (status : Status) → HasActCause failed put text (Some CutShort) (Unit {0}) status → IsDoneOrStarved status
ends_memory failed put text Done cause = tt
ends_memory failed put text NoMemory cause = tt
ends_memory failed put text WriteFault cause = absurd cause.1
ends_memory failed put text (MountRefused told) cause = let no : ◌≡◌ {A = Option ActOutcome} (Some CutShort) (Some (Refused told)) = cause.1 in absurd cc
ends_memory failed put text (DeviceFault told) cause = let no : ◌≡◌ {A = Option ActOutcome} (Some CutShort) (Some (Refused told)) = cause.1 in absurd cc
ends_memory failed put text (OverCommitted sum) cause = let no : ◌≡◌ {A = Option ActOutcome} (Some CutShort) (Some (Exceeded sum)) = cause.1 in absurd cc
ends_memory failed put text status cause = absurd cause

module _ {F R : Type 0} (of_file : F → FileState) (of_port : R → PortState) (keys : Keys) (drew draws : ℕ) (failed : Type 0) (handed given : BenchState) (status : Status) (u : IsUndisturbed keys drew draws handed given)
    (not : failed → ⊥) where
  ends_by : (put : List ℕ) (what : MigrationRecord) → MigratesThen of_file of_port keys drew draws what handed given → HasActCause failed put (migration_output what) (migration_stop what) (Unit {0}) status
      → IsDoneOrStarved status
  ends_by put (GivenUp fault) done cause = ends_starved failed put _ fault (undisturbed_benches_are_moved keys drew draws handed given fault u done) status cause
  ends_by put (Unlisted directory moved fault) done cause =
      ends_starved failed put _ (told_behind fault) (ap told_behind (moved_benches_are_listed of_file of_port keys drew draws handed done.0 given directory moved fault u done.1 done.2)) status cause
  ends_by put (Shown directory moved objects) done cause = ends_shown failed not put _ status cause
  ends_by put (Starved directory moved) done cause = ends_memory failed put _ status cause

pub migrations_end : {F R : Type 0} (of_file : F → FileState) (of_port : R → PortState) (failed : Type 0) → MigrationsEnd of_file of_port failed
migrations_end of_file of_port failed keys drew draws held_old held_new handed given status r u not =
    ends_by of_file of_port keys drew draws failed handed given status u not r.put r.what r.done r.cause

-- AN OLD FILE IS NOT TOLD
module _ (file : ℕ) where
  not_told : (fault : MountFault) → (let told : MountFault = OldFormat file in told ≡ told_behind fault) → ⊥
  not_told NoStore is = absurd (cc (is))
  not_told (CardBlock byte) is = absurd (cc (is))
  not_told (Directory d) is = absurd (cc (is))
  not_told (Frame f) is = absurd (cc (is))
  not_told (CardResult n) is = absurd (cc (is))
  not_told (Failed cause) is = absurd (cc (is))
  not_told Spent is = absurd (cc (is))
  not_told NoMemoryFault is = absurd (cc (is))
  not_told (OldFormat other) is = absurd (cc (is))

  not_moved : (keys : Keys) (handed given : BenchState) (drew draws : ℕ) → IsBenchNotMoved keys handed given drew draws (OldFormat file) → ⊥
  not_moved keys handed given drew draws (stopped s memory) = s.refused
  not_moved keys handed given drew draws (unasked is same) = absurd (cc (is))
  not_moved keys handed given drew draws (starved other is s memory) = absurd (cc (is))

  module _ {F R : Type 0} (of_file : F → FileState) (of_port : R → PortState) (keys : Keys) (drew draws : ℕ) (handed given : BenchState) where
    abbrev StopsSo : MigrationRecord → Type 0
    StopsSo what = migration_stop what ≡ Some (Refused (OldFormat file))

    not_by : (what : MigrationRecord) → MigratesThen of_file of_port keys drew draws what handed given → StopsSo what → ⊥
    not_by (GivenUp fault) done stop =
        let e : ◌≡◌ {A = Option ActOutcome} (Some (Refused fault)) (Some (Refused (OldFormat file))) = stop in
        let same : fault ≡ OldFormat file = cc in
        not_moved keys handed given drew draws (subst (λ (f : MountFault). IsBenchNotMoved keys handed given drew draws f) same done)
    not_by (Unlisted directory moved fault) done stop =
        let e : ◌≡◌ {A = Option ActOutcome} (Some (Refused (told_behind fault))) (Some (Refused (OldFormat file))) = stop in
        let same : OldFormat file ≡ told_behind fault = cc in
        not_told fault same
    not_by (Shown directory moved objects) done stop = let no : ◌≡◌ {A = Option ActOutcome} None (Some (Refused (OldFormat file))) = stop in cc
    not_by (Starved directory moved) done stop = let no : ◌≡◌ {A = Option ActOutcome} (Some CutShort) (Some (Refused (OldFormat file))) = stop in cc

pub migrations_tell_no_old_file : {F R : Type 0} (of_file : F → FileState) (of_port : R → PortState) (failed : Type 0) → MigrationsTellNoOldFile of_file of_port failed
migrations_tell_no_old_file of_file of_port failed keys drew draws held_old held_new handed given file r = not_by file of_file of_port keys drew draws handed given r.what r.done (r.cause).1
