-- The entry that an enumerator gives next.
use Rattle.std.specs.Prelude.{◌≡◌, ℕ, List, Option, Some, None}
use Rattle.enumerators.specs.declared.cursor.Cursor.{Cursor}
use Rattle.enumerators.specs.declared.cursor.Cursor.TheVariants.{Idle, First, After}
use Rattle.dir_records.specs.declared.entry.DirEntry.{DirEntry}
use Rattle.dir_index.specs.EntryNames.{IsNextAbove}

-- none where it is not started; else the application's least, or the least above the last one that it gave
abbrev pub IsNextBy : List (Option DirEntry) → (app : List ℕ) → Cursor → Option DirEntry → Type 0
IsNextBy entries app Idle next = next ≡ None
IsNextBy entries app First next = IsNextAbove entries app None next
IsNextBy entries app (After id) next = IsNextAbove entries app (Some id) next
