-- A bench that was migrated, and one that was not to the end, in the words of benches.
use Rattle.std.specs.Prelude.{◌≡◌, ◌≤◌, ℕ, Bool}
use Rattle.disk_model.specs.Calls.{GoesOn}
use Rattle.htree_file.specs.Answers.{FilePassed}
use Rattle.hmac_keys.specs.declared.Keys.{Keys}
use Rattle.store_commit.specs.declared.fault.MountFault.{MountFault}
use Rattle.store_commit.specs.declared.fault.MountFault.TheVariants.{NoMemory}
use Rattle.crash_core.specs.Pictures.{AreSound}
use Rattle.object_calls.specs.Migrated.{LeavesCurrent, MigratesBench, TellsMoves, WritesOnceEach}
use Rattle.object_calls.specs.MigrationRefusals.{MigrationRefused, SpentWithoutRoom}
use Rattle.run_acts.specs.Benches.{BenchState, HadMemory, IsStarved}

-- All files are of the current format, and at each moment the bench mounted to the objects that it mounted to at first. It is told what was moved.
pub record MovesBench (keys : Keys) (old new : BenchState) (directory : Bool) (objects : ℕ) : Type 0 where
  pub migrates : MigratesBench old.files new.files old.card new.card keys
  pub current : LeavesCurrent new.files new.card keys
  pub moves : TellsMoves old.files new.files old.card new.card keys directory objects
  pub writes : WritesOnceEach old.card new.card keys directory objects
  pub few : objects ≤ 256
  -- no call of a file failed; the card may have failed to confirm a write that then was found to stand
  pub passed : (file : ℕ) → FilePassed (old.files file) (new.files file)
  pub counted : old.card.faults ≤ new.card.faults
  -- what is known of each file goes on
  pub goes_on : (file : ℕ) → GoesOn (old.files file) (new.files file)
  -- what holds of every file
  pub sound : AreSound old.files

-- It was given up, and until then each moment kept the objects.
pub record StopsBench (keys : Keys) (old new : BenchState) (drew draws : ℕ) (fault : MountFault) : Type 0 where
  pub migrates : MigratesBench old.files new.files old.card new.card keys
  pub refused : MigrationRefused old.files new.files old.card new.card keys drew draws fault
  pub short : SpentWithoutRoom old.files new.files old.card keys fault
  pub goes_on : (file : ℕ) → GoesOn (old.files file) (new.files file)
  -- what holds of every file
  pub sound : AreSound old.files
  pub sound_left : AreSound new.files

-- Why a bench is not migrated to the end: that, and in no call of a file did memory run out; or memory ran out, before any call, or in a call
-- of a file, whatever was then answered.
pub data IsBenchNotMoved (keys : Keys) (old new : BenchState) (drew draws : ℕ) (fault : MountFault) : Type 0 where
  stopped : StopsBench keys old new drew draws fault → HadMemory old new → IsBenchNotMoved keys old new drew draws fault
  unasked : fault ≡ NoMemory → new ≡ old → IsBenchNotMoved keys old new drew draws fault
  starved : (other : MountFault) → fault ≡ NoMemory → StopsBench keys old new drew draws other → IsStarved old new → IsBenchNotMoved keys old new drew draws fault
