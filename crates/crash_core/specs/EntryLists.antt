-- Entries by their places: which names and files they have.
use Rattle.std.specs.Prelude.{◌≡◌, ◌≢◌, ℕ, false, List, Option, Some, None, get_or}
use Rattle.std.specs.Ordering.{is_eq}
use Rattle.node_image.specs.declared.node.RootRef.{RootRef}
use Rattle.node_image.specs.References.{current_format}
use Rattle.store_model.specs.declared.name.ObjectName.{ObjectName}
use Rattle.store_model.specs.Name.{name_cmp}
use Rattle.dir_records.specs.declared.entry.DirEntry.{DirEntry}
use Rattle.crash_core.specs.MountedObject.{root_of}
use Rattle.crash_core.specs.Entries.{name_of}

abbrev pub entry_at : List (Option DirEntry) → ℕ → Option DirEntry
entry_at entries index = get_or entries index None

-- no entry at another place has that name
abbrev pub IsAlone : List (Option DirEntry) → ℕ → ObjectName → Type 0
IsAlone entries index name = (other : ℕ) (e : DirEntry) → other ≢ index → entry_at entries other ≡ Some e → is_eq (name_cmp name (name_of e)) ≡ false

-- no two entries have one name
abbrev pub AreDistinct : List (Option DirEntry) → Type 0
AreDistinct entries = (index : ℕ) (e : DirEntry) → entry_at entries index ≡ Some e → IsAlone entries index (name_of e)

-- no two entries have one file
abbrev pub AreSingle : List (Option DirEntry) → Type 0
AreSingle entries = (a b : ℕ) (e f : DirEntry) → entry_at entries a ≡ Some e → entry_at entries b ≡ Some f → e.file ≡ f.file → a ≡ b

-- no entry names the file
abbrev pub IsUnnamed : List (Option DirEntry) → (file : ℕ) → Type 0
IsUnnamed entries file = (index : ℕ) (e : DirEntry) → entry_at entries index ≡ Some e → file ≢ e.file

-- each file that an entry names is of the current format
abbrev pub AreCurrent : List (Option DirEntry) → Type 0
AreCurrent entries = (index : ℕ) (e : DirEntry) → entry_at entries index ≡ Some e → e.format ≡ current_format

-- an entry names the file by that reference
pub record IsNamed (entries : List (Option DirEntry)) (file : ℕ) (root : RootRef) : Type 0 where
  pub index : ℕ
  pub entry : DirEntry
  pub at : entry_at entries index ≡ Some entry
  pub is_file : file ≡ entry.file
  pub is_root : root ≡ root_of entry
