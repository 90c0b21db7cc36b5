-- The index of names beside the entries of the directory.
use Rattle.std.specs.Prelude.{◌≡◌, ◌<◌, ℕ, if◌then◌else◌, is_none, List, length, slice_set, Option, Some, None}
use Rattle.std.specs.Ordering.{is_eq}
use Rattle.store_model.specs.declared.name.ObjectName.{ObjectName}
use Rattle.store_model.specs.Name.{name_cmp}
use Rattle.dir_records.specs.declared.entry.DirEntry.{DirEntry}
use Rattle.crash_core.specs.Entries.{name_of}
use Rattle.crash_core.specs.EntryLists.{entry_at}
use Rattle.dir_index.specs.Index.{IndexState, index_at}
use Rattle.dir_file.specs.EntryForms.{Fits}
use Rattle.crash_core.specs.declared.change.EntryChange.{EntryChange}
use Rattle.crash_core.specs.declared.change.EntryChange.TheVariants.{Put, Clear}

-- a name is held exactly where an entry has it, with that entry's index
pub record IsIndexOf (s : IndexState) (entries : List (Option DirEntry)) : Type 0 where
  pub found : (name : ObjectName) (i : ℕ) → index_at s name ≡ Some i → (e : DirEntry) × (entry_at entries i ≡ Some e) × (name_of e ≡ name)
  pub held : (i : ℕ) (e : DirEntry) → entry_at entries i ≡ Some e → index_at s (name_of e) ≡ Some i

-- how many names more the index has with that one
abbrev pub name_added : IndexState → DirEntry → ℕ
name_added s e = if is_none (index_at s (name_of e)) then 1 else 0

-- how many it has at most more once a change is made
abbrev pub names_added : IndexState → EntryChange → ℕ
names_added s (Put index e) = name_added s e
names_added s (Clear index) = 0

-- the same names are held, with the same indices
abbrev pub HasSameNames : (old new : IndexState) → Type 0
HasSameNames old new = (name : ObjectName) → index_at new name ≡ index_at old name

-- the name is put in, where it is not held
abbrev pub AddsName : (old new : IndexState) → DirEntry → (place : ℕ) → Type 0
AddsName old new e place = index_at old (name_of e) ≡ None
    → (other : ObjectName) → index_at new other ≡ (if is_eq (name_cmp other (name_of e)) then Some place else index_at old other)

-- the name of an entry is put in, if there is one
abbrev pub IndexesEntry : (old new : IndexState) → Option DirEntry → (place : ℕ) → Type 0
IndexesEntry old new None place = new ≡ old
IndexesEntry old new (Some e) place = AddsName old new e place

-- The index after an entry was put in a place, or taken from it, where another stood or none; whatever the other entries are.
abbrev pub PutsName : (old new : IndexState) → (before : Option DirEntry) → (index : ℕ) → DirEntry → Type 0
PutsName old new before index e = (entries : List (Option DirEntry)) → length entries ≡ 256 → Fits entries index (Some e) → entry_at entries index ≡ before
    → IsIndexOf old entries → IsIndexOf new (slice_set entries index (Some e))

abbrev pub ClearsName : (old new : IndexState) → (before : Option DirEntry) → (index : ℕ) → Type 0
ClearsName old new before index = (entries : List (Option DirEntry)) → length entries ≡ 256 → index < 256 → entry_at entries index ≡ before
    → IsIndexOf old entries → IsIndexOf new (slice_set entries index None)

abbrev pub ChangesNames : (old new : IndexState) → (before : Option DirEntry) → EntryChange → Type 0
ChangesNames old new before (Put index e) = PutsName old new before index e
ChangesNames old new before (Clear index) = ClearsName old new before index
