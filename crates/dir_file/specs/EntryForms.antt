-- Which lists of entries a directory can have.
use Rattle.std.specs.Prelude.{◌≡◌, ◌≢◌, ℕ, ◌<◌, List, length, get_or, replicate, false, Option, None, IfSome}
use Rattle.dir_records.specs.declared.entry.DirEntry.{DirEntry}
use Rattle.dir_records.specs.Form.{HasForm}
use Rattle.crash_core.specs.Entries.{first_double, is_double}

abbrev pub HasForms : List (Option DirEntry) → Type 0
HasForms entries = (i : ℕ) → i < length entries → IfSome (get_or entries i None) HasForm

-- 256 entries of their form, no two of which have the same name or file
pub record AreEntriesOf (entries : List (Option DirEntry)) : Type 0 where
  pub whole : length entries ≡ 256
  pub forms : HasForms entries
  pub apart : first_double entries 0 256 ≡ None

-- the entries of a directory without objects
abbrev pub no_entries : List (Option DirEntry)
no_entries = replicate 256 None

-- an entry, or none, fits in a place: it has its form, and no entry at another place has its name or its file
pub record Fits (entries : List (Option DirEntry)) (index : ℕ) (entry : Option DirEntry) : Type 0 where
  pub below : index < 256
  pub form : IfSome entry HasForm
  pub alone : (i : ℕ) → i < 256 → i ≢ index → is_double (get_or entries i None) entry ≡ false
