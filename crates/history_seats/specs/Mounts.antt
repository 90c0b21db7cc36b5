-- What is known before the first call: the mount.
use Rattle.std.specs.Prelude.{ℕ, List}
use Rattle.store_model.specs.declared.name.ObjectName.{ObjectName}
use Rattle.history_seats.specs.Records.{Version}

-- an entry of the directory: an object's name, its file, and the generation of the file
pub record Entry : Type 0 where
  pub name : ObjectName
  pub file : ℕ
  pub generation : ℕ

-- what an entry named at the mount
pub record MountedEntry : Type 0 where
  pub entry : Entry
  pub version : Version

-- The mount: the applications of the sessions, and the entries of the directory with their versions.
pub record Mounted : Type 0 where
  pub applications : List (List ℕ)
  pub entries : List MountedEntry
