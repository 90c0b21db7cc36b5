-- What looking at a directory's file says, before it is moved or mounted.
use Rattle.std.specs.Prelude.{◌≡◌, ◌⊎◌, List, Option, Ok, Err}
use Rattle.disk_model.specs.State.{FileState, Sound as FileSound}
use Rattle.disk_model.specs.Calls.{Rests, Syncs}
use Rattle.htree_file.specs.Answers.{FileFailed}
use Rattle.htree_file.specs.Standing.{Told}
use Rattle.node_image.specs.declared.node.RootRef.{RootRef}
use Rattle.hmac_keys.specs.declared.Keys.{Keys}
use Rattle.dir_records.specs.declared.entry.DirEntry.{DirEntry}
use Rattle.tee_types.specs.declared.reply.Cause.TheVariants.{Fault}
use Rattle.tee_types.specs.declared.reply.Device.TheVariants.{Dir}
use Rattle.crash_core.specs.Directory.{directory_of}
use Rattle.crash_core.specs.DeviceKeys.{directory_key}
use Rattle.store_commit.specs.declared.fault.MountFault.{MountFault}
use Rattle.store_commit.specs.declared.fault.MountFault.TheVariants.{Directory, Failed, NoMemory}

-- The file was synced, or its sync failed, and behind that it was only read.
pub record Looks (old new : FileState) : Type 0 where
  pub mid : FileState
  pub first : Rests old mid ⊎ Syncs old mid
  pub behind : Rests mid new
  -- what holds of every file
  pub sound : FileSound mid

-- the reference names a directory in what the file reads as, where that can be followed
abbrev pub HasDirectory : Keys → (old new : FileState) → RootRef → Type 0
HasDirectory keys old new root = Told old new → (entries : List (Option DirEntry)) × (directory_of (directory_key keys) new.reads root ≡ Ok entries)

-- why it names none, or the file could not be read
abbrev pub HasNoDirectory : Keys → (old new : FileState) → RootRef → MountFault → Type 0
HasNoDirectory keys old new root (Directory fault) = Told old new → directory_of (directory_key keys) new.reads root ≡ Err fault
HasNoDirectory keys old new root (Failed (Fault Dir count)) = FileFailed old new count
HasNoDirectory keys old new root NoMemory = Unit {0}
HasNoDirectory keys old new root fault = ⊥
