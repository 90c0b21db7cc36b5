-- The entries of a directory in the order of their names.
use Rattle.std.specs.Prelude.{◌≡◌, List, Option, Some}
use Rattle.std.specs.List.Sorted.{IsStrictlySortedBy}
use Rattle.std.specs.Map.{keys_of}
use Rattle.store_model.specs.Name.{name_cmp}
use Rattle.dir_records.specs.declared.entry.DirEntry.{DirEntry}
use Rattle.crash_core.specs.Entries.{name_of}
use Rattle.crash_core.specs.EntryLists.{entry_at}
use Rattle.dir_index.specs.Index.{IndexEntries, IndexEntry}
use Rattle.store_commit.specs.NameIndex.{IsIndexOf}

-- Each name of an entry once, with the index of that entry; each name is below those behind it.
pub record AreNamesOf (entries : List (Option DirEntry)) (names : IndexEntries) : Type 0 where
  pub sorted : IsStrictlySortedBy name_cmp (keys_of names)
  pub index : IsIndexOf (record { entries = names; spare = 0 }) entries

-- the entry at that index, which has that name
pub record IsOfName (entries : List (Option DirEntry)) (name : IndexEntry) (e : DirEntry) : Type 0 where
  pub at : entry_at entries name.1 ≡ Some e
  pub named : name_of e ≡ name.0
