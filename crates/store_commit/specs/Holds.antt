-- The files that sessions hold: each session at most one, before an entry names it.
use Rattle.std.specs.Prelude.{◌≡◌, ◌≢◌, ◌⊎◌, ◌<◌, ◌≤◌, ◌==◌, if◌then◌else◌, ℕ, List, Option, Some, None, get_or}
use Rattle.tee_types.specs.Limits.{last_file}
use Rattle.dir_records.specs.declared.entry.DirEntry.{DirEntry}
use Rattle.crash_core.specs.EntryLists.{IsUnnamed, entry_at}
use Rattle.crash_core.specs.EntryChanges.{file_put}
use Rattle.crash_core.specs.declared.change.EntryChange.{EntryChange}

-- the file that a session holds
abbrev pub file_held : (holds : List (Option ℕ)) → (session : ℕ) → Option ℕ
file_held holds session = get_or holds session None

-- no session holds the file
abbrev pub IsUnheld : (holds : List (Option ℕ)) → (file : ℕ) → Type 0
IsUnheld holds file = (session : ℕ) → file_held holds session ≢ Some file

-- no entry names a file that is held, and no two sessions hold one file
pub record AreHolds (entries : List (Option DirEntry)) (holds : List (Option ℕ)) : Type 0 where
  pub within : (session file : ℕ) → file_held holds session ≡ Some file → file ≤ last_file
  pub unnamed : (session file : ℕ) → file_held holds session ≡ Some file → IsUnnamed entries file
  pub single : (a b file : ℕ) → file_held holds a ≡ Some file → file_held holds b ≡ Some file → a ≡ b

-- a hold, unless it is on that file
abbrev pub unless_file : (file : ℕ) → Option ℕ → Option ℕ
unless_file file None = None
unless_file file (Some held) = if held == file then None else Some held

-- all holds but those on that file
abbrev pub HoldsWithout : (file : ℕ) → (old new : List (Option ℕ)) → Type 0
HoldsWithout file old new = (session : ℕ) → file_held new session ≡ unless_file file (file_held old session)

-- an entry names the file, or a session holds it
abbrev pub IsFileTaken : (entries : List (Option DirEntry)) → (holds : List (Option ℕ)) → (file : ℕ) → Type 0
IsFileTaken entries holds file =
    ((index : ℕ) × (e : DirEntry) × (entry_at entries index ≡ Some e) × (e.file ≡ file)) ⊎ ((session : ℕ) × (file_held holds session ≡ Some file))

-- the same of a file that may be none
abbrev pub IsTaken : (entries : List (Option DirEntry)) → (holds : List (Option ℕ)) → Option ℕ → Type 0
IsTaken entries holds None = Unit {0}
IsTaken entries holds (Some file) = IsFileTaken entries holds file

-- two files, each of which may be none, are not one file
abbrev pub AreApart : Option ℕ → Option ℕ → Type 0
AreApart None other = Unit {0}
AreApart (Some file) other = other ≢ Some file

-- the hold on the file that a change puts ends
abbrev pub EndsHold : Option ℕ → (old new : List (Option ℕ)) → Type 0
EndsHold None old new = new ≡ old
EndsHold (Some file) old new = HoldsWithout file old new

abbrev pub EndsHoldOf : EntryChange → (old new : List (Option ℕ)) → Type 0
EndsHoldOf change old new = EndsHold (file_put change) old new

-- an object's file that no entry names and no session holds
pub record IsFreeFile (entries : List (Option DirEntry)) (holds : List (Option ℕ)) (file : ℕ) : Type 0 where
  pub from : 1 ≤ file
  pub upto : file ≤ last_file
  pub unnamed : IsUnnamed entries file
  pub unheld : IsUnheld holds file

-- the least such
pub record IsLeastFreeFile (entries : List (Option DirEntry)) (holds : List (Option ℕ)) (file : ℕ) : Type 0 where
  pub free : IsFreeFile entries holds file
  pub least : (other : ℕ) → other < file → IsFreeFile entries holds other → ⊥
