-- Which entries a migration leaves.
use Rattle.std.specs.Prelude.{◌≡◌, ◌⊎◌, ◌==◌, ◌<◌, ◌+◌, if◌then◌else◌, ℕ, Bool, false, List, [], ◌++◌, length, take, drop, Option, Some, None}
use Rattle.std.specs.List.{count_by}
use Rattle.node_image.specs.References.{current_format}
use Rattle.dir_records.specs.declared.entry.DirEntry.{DirEntry}
use Rattle.crash_core.specs.CardBlock.{old_format}
use Rattle.crash_core.specs.EntryLists.{entry_at}
use Rattle.crash_core.specs.MigrationLaws.{moved_entry}
use Rattle.store_commit.specs.Holds.{IsLeastFreeFile}

-- the entry has a file of the old format
abbrev pub is_old : Option DirEntry → Bool
is_old None = false
is_old (Some e) = e.format == old_format

-- What becomes of an entry where these are the entries: one of the old format names the least file that none of them names, of the current
-- format, and else it is as it was; any other stays.
abbrev pub MovesEntry : (entries : List (Option DirEntry)) → (old new : Option DirEntry) → Type 0
MovesEntry entries None new = new ≡ None
MovesEntry entries (Some e) new =
    ((e.format ≡ current_format) × (new ≡ Some e))
    ⊎ ((e.format ≡ old_format) × ((file : ℕ) × IsLeastFreeFile entries [] file × (new ≡ Some (moved_entry e file current_format))))

-- It becomes of each entry, in rising index, where those before it are as they then are, and the others as they were.
pub record AreMoved (old new : List (Option DirEntry)) : Type 0 where
  pub long : length new ≡ length old
  pub each : (index : ℕ) → MovesEntry (take index new ++ drop index old) (entry_at old index) (entry_at new index)

-- the entry, unless its file is of the current format
abbrev pub unless_current : Option DirEntry → Option DirEntry
unless_current None = None
unless_current (Some e) = if e.format == current_format then None else Some e

-- It became so of the first entries, of which so many were of the old format; the others are as they were.
pub record MovesEntries (old new : List (Option DirEntry)) (count moved : ℕ) : Type 0 where
  pub long : length new ≡ length old
  pub first : (index : ℕ) → index < count → MovesEntry (take index new ++ drop index old) (entry_at old index) (entry_at new index)
  pub behind : drop count new ≡ drop count old
  pub counted : count_by is_old old ≡ moved + count_by is_old new
