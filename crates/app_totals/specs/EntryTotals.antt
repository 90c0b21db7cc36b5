-- What an application has in the store, by the entries of a directory.
use Rattle.std.specs.Prelude.{ℕ, Bool, false, if◌then◌else◌, List, Option, Some, None, count_by, sum_by}
use Rattle.std.specs.Ordering.{is_eq}
use Rattle.tee_types.specs.Identifier.{bytes_cmp}
use Rattle.dir_records.specs.declared.entry.DirEntry.{DirEntry}
use Rattle.app_totals.specs.declared.numbers.Totals.{Totals}

-- the entry is that of an object of the application
abbrev pub is_entry_of : List ℕ → Option DirEntry → Bool
is_entry_of app None = false
is_entry_of app (Some entry) = is_eq (bytes_cmp app entry.app)

-- the bytes of data of the entry's object, where it is one of the application
abbrev pub bytes_by : List ℕ → Option DirEntry → ℕ
bytes_by app None = 0
bytes_by app (Some entry) = if is_eq (bytes_cmp app entry.app) then entry.size else 0

-- how many entries are of the application's objects, and how many bytes of data these have
abbrev pub entry_totals : List ℕ → List (Option DirEntry) → Totals
entry_totals app entries = record { objects = count_by (is_entry_of app) entries; bytes = sum_by (bytes_by app) entries }
