-- The run of a migration: the bench is migrated, and its objects are listed.
use Rattle.std.specs.Prelude.{ℕ, ◌≡◌, List, ◌++◌, Bool, Option, None, Some}
use Rattle.disk_model.specs.State.{FileState}
use Rattle.hmac_keys.specs.declared.Keys.{Keys}
use Rattle.rpmb_card.specs.Port.{PortState}
use Rattle.tee_ports.specs.Streams.{Appends}
use Rattle.store_model.specs.Object.{ObjectMap}
use Rattle.script_text.specs.Text.{migration_line}
use Rattle.run_acts.specs.declared.MountFault.{MountFault}
use Rattle.run_acts.specs.declared.MountFault.TheVariants.{CardBlock, OldFormat}
use Rattle.run_acts.specs.Lines.{objects_text, refusal_line}
use Rattle.run_acts.specs.Benches.{BenchState}
use Rattle.run_acts.specs.ListedBenches.{IsListRefused, ListsBench}
use Rattle.run_acts.specs.MigratedBenches.{IsBenchNotMoved, MovesBench}
use Rattle.script_runner.specs.declared.status.Status.{Status}
use Rattle.script_runner.specs.declared.status.Status.TheVariants.{Done, NoMemory, WriteFault}
use Rattle.script_runner.specs.Prints.{HasActCause}
use Rattle.script_runner.specs.Sending.{Begins, Stops}
use Rattle.script_runner.specs.Text.{ActOutcome, CutShort, Refused}

-- What came of it: why it was given up; or what was moved, and then the objects, why they could not be listed, or that memory ran out.
pub data MigrationRecord : Type 0 where
  GivenUp : MountFault → MigrationRecord
  Shown : Bool → ℕ → ObjectMap → MigrationRecord
  Unlisted : Bool → ℕ → MountFault → MigrationRecord
  Starved : Bool → ℕ → MigrationRecord

-- What the refusal of a mount behind the migration is told as. An old file is found there only where the card named another directory than
-- the one that was read before: then it is its block that is refused.
abbrev pub told_behind : MountFault → MountFault
told_behind (OldFormat file) = CardBlock 0
told_behind fault = fault

-- its text: the line of what was moved, and the lines of the objects; or the line of a refusal in the place of what is missing
abbrev pub migration_output : MigrationRecord → List ℕ
migration_output (GivenUp fault) = refusal_line fault
migration_output (Shown directory moved objects) = migration_line directory moved ++ objects_text objects
migration_output (Unlisted directory moved fault) = migration_line directory moved ++ refusal_line (told_behind fault)
migration_output (Starved directory moved) = migration_line directory moved

-- where it stopped, if it did; memory may have run out behind the moves
abbrev pub migration_stop : MigrationRecord → Option ActOutcome
migration_stop (GivenUp fault) = Some (Refused fault)
migration_stop (Unlisted directory moved fault) = Some (Refused (told_behind fault))
migration_stop (Shown directory moved objects) = None
migration_stop (Starved directory moved) = Some CutShort

-- The text so far and the lines below it were put, or the sink took no more, or there was no memory.
abbrev pub PrintsBehind : (failed : Type 0) → (held_old held_new : Option (List ℕ)) → (kept lines : List ℕ) → Status → Type 0
PrintsBehind failed held_old held_new kept lines Done = Appends held_old held_new (kept ++ lines)
PrintsBehind failed held_old held_new kept lines WriteFault = failed × Stops held_old held_new kept lines
PrintsBehind failed held_old held_new kept lines NoMemory = held_new ≡ held_old
PrintsBehind failed held_old held_new kept lines _ = ⊥

module _ {F R : Type 0} (of_file : F → FileState) (of_port : R → PortState) (keys : Keys) where
  -- What was done to the bench. `drew` and `draws`: how many faults the generator of nonces counted before it, and behind it.
  abbrev pub MigratesThen : (drew draws : ℕ) → MigrationRecord → (handed given : BenchState) → Type 0
  MigratesThen drew draws (GivenUp fault) handed given = IsBenchNotMoved keys handed given drew draws fault
  MigratesThen drew draws (Shown directory moved objects) handed given =
      (between : BenchState) × MovesBench keys handed between directory moved × ListsBench of_file of_port keys between given objects (objects_text objects)
  MigratesThen drew draws (Unlisted directory moved fault) handed given =
      (between : BenchState) × MovesBench keys handed between directory moved × IsListRefused of_file of_port keys between given drew draws fault
  MigratesThen drew draws (Starved directory moved) handed given = MovesBench keys handed given directory moved

  -- The run: what was put of the text of what came of it, and why it ended so.
  pub record RunsMigration (drew draws : ℕ) (failed : Type 0) (held_old held_new : Option (List ℕ)) (handed given : BenchState) (status : Status) : Type 0 where
    pub put : List ℕ
    pub what : MigrationRecord
    pub appended : Appends held_old held_new put
    pub begins : Begins put (migration_output what)
    pub done : MigratesThen drew draws what handed given
    pub cause : HasActCause failed put (migration_output what) (migration_stop what) (Unit {0}) status
