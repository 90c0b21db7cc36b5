-- When the run of a migration is done.
use Rattle.std.specs.Prelude.{ℕ, List, Option}
use Rattle.disk_model.specs.State.{FileState}
use Rattle.hmac_keys.specs.declared.Keys.{Keys}
use Rattle.rpmb_card.specs.Port.{PortState}
use Rattle.run_acts.specs.Benches.{BenchState}
use Rattle.run_acts.specs.MigrationLaws.{IsUndisturbed}
use Rattle.run_acts.specs.declared.MountFault.TheVariants.{OldFormat}
use Rattle.script_runner.specs.declared.status.Status.{Status}
use Rattle.script_runner.specs.declared.status.Status.TheVariants.{MountRefused}
use Rattle.script_runner.specs.Migrations.{RunsMigration}
use Rattle.script_runner.specs.RunLaws.{IsDoneOrStarved}

-- Where the sink takes its text, the run of a migration that is not disturbed has the status 0, or wants memory.
abbrev pub MigrationsEnd : {F R : Type 0} → (F → FileState) → (R → PortState) → (failed : Type 0) → Type 0
MigrationsEnd of_file of_port failed =
    (keys : Keys) (drew draws : ℕ) (held_old held_new : Option (List ℕ)) (handed given : BenchState) (status : Status)
    → RunsMigration of_file of_port keys drew draws failed held_old held_new handed given status → IsUndisturbed keys drew draws handed given → (failed → ⊥)
    → IsDoneOrStarved status

-- No run of a migration is refused for a file of the old format, whatever the card is.
abbrev pub MigrationsTellNoOldFile : {F R : Type 0} → (F → FileState) → (R → PortState) → (failed : Type 0) → Type 0
MigrationsTellNoOldFile of_file of_port failed =
    (keys : Keys) (drew draws : ℕ) (held_old held_new : Option (List ℕ)) (handed given : BenchState) (file : ℕ)
    → RunsMigration of_file of_port keys drew draws failed held_old held_new handed given (MountRefused (OldFormat file)) → ⊥
