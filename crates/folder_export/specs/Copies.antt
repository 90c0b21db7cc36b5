-- The bytes of one file are copied into another.
use Rattle.std.specs.Prelude.{◌≡◌, ℕ, ◌+◌, ◌^◌, ◌<◌, ◌≤◌, List, length, take, IsTrue}
use Rattle.disk_model.specs.Faults.{Rose}
use Rattle.disk_model.specs.State.{FileState}
use Rattle.disk_model.specs.Calls.{Known}
use Rattle.tee_ports.specs.Files.{Passes}
use Rattle.folder_export.specs.declared.fault.FilePlace.{FilePlace}
use Rattle.folder_export.specs.declared.fault.FilePlace.TheVariants.{Bench, Folder}

-- The file tells what it reads as, that can be followed, and there are fewer than 2^32 bytes.
pub record IsTold (old new : FileState) : Type 0 where
  pub tells : IsTrue new.tells
  pub known : Known old new
  pub few : length new.reads < 2 ^ 32

-- nothing of the file is pending
pub record IsSettled (s : FileState) : Type 0 where
  pub settled : IsTrue s.honest → s.settled ≡ s.reads
  pub pending_from : s.pending_from ≡ length s.trail

-- The file was given these bytes in front, each of them once. No call of it failed.
pub record WritesFront (bytes : List ℕ) (old new : FileState) : Type 0 where
  pub passed : Passes old new
  pub front : Known old new → take (length bytes) new.reads ≡ bytes
  pub once : old.written + length bytes < 2 ^ 64 → new.written ≡ old.written + length bytes

-- It has these bytes and no others, and they are settled.
pub record WritesFile (bytes : List ℕ) (old new : FileState) : Type 0 where
  pub passed : Passes old new
  pub reads : Known old new → new.reads ≡ bytes
  pub once : old.written + length bytes < 2 ^ 64 → new.written ≡ old.written + length bytes
  pub settled : IsSettled new

-- The first bytes of a file were copied: those that it reads as, if it tells so many.
pub record CopiesFront (count : ℕ) (from_old from_new to_old to_new : FileState) : Type 0 where
  pub passed : Passes from_old from_new
  pub bytes : List ℕ
  pub many : length bytes ≡ count
  pub writes : WritesFront bytes to_old to_new
  pub are : IsTold from_old from_new → count ≤ length from_new.reads → bytes ≡ take count from_new.reads

-- All its bytes were copied, and the other file has no others.
pub record CopiesFile (from_old from_new to_old to_new : FileState) : Type 0 where
  pub passed : Passes from_old from_new
  pub bytes : List ℕ
  pub writes : WritesFile bytes to_old to_new
  pub are : IsTold from_old from_new → bytes ≡ from_new.reads

-- A call of the file failed: it counted a fault, which the answer carries, and a calm file counted it for want of memory.
pub record FileFailed (old new : FileState) (count : ℕ) : Type 0 where
  pub rose : Rose old.faults new.faults
  pub carried : count ≡ new.faults
  pub calm : IsTrue old.calm → Rose old.starved new.starved

-- The fault is of the bench's file of a number or of the folder's, and no call of the other failed.
abbrev pub OneFailed : FilePlace → (count number : ℕ) → (from_old from_new to_old to_new : FileState) → Type 0
OneFailed (Bench place) count number from_old from_new to_old to_new = (place ≡ number) × FileFailed from_old from_new count × Passes to_old to_new
OneFailed (Folder place) count number from_old from_new to_old to_new = (place ≡ number) × Passes from_old from_new × FileFailed to_old to_new count
