-- The names of a directory's objects, each with the index of its record.
use Rattle.std.specs.Prelude.{ℕ, List, Option, Some, None}
use Rattle.std.specs.Ordering.{is_eq}
use Rattle.std.specs.Map.{keys_of, lookup, remove_entry}
use Rattle.std.specs.BTreeMap.{insert_entry}
use Rattle.std.specs.List.Sorted.{IsStrictlySortedBy}
use Rattle.store_model.specs.declared.name.ObjectName.{ObjectName}
use Rattle.store_model.specs.Name.{name_cmp}

-- a name with its index
abbrev pub IndexEntry : Type 0
IndexEntry = ObjectName × ℕ

-- a finite map from names to indices, as its entries in the order of the names
abbrev pub IndexEntries : Type 0
IndexEntries = List IndexEntry

-- the entries, and how many more may be added without memory
pub record IndexState : Type 0 where
  pub entries : IndexEntries
  pub spare : ℕ

-- each name is below those behind it, so none is there twice
abbrev pub IsOrdered : IndexState → Type 0
IsOrdered s = IsStrictlySortedBy name_cmp (keys_of s.entries)

-- the name of an application's object
abbrev pub named : (app id : List ℕ) → ObjectName
named app id = record { app = app; id = id }

-- the index that is held under that name
abbrev pub index_at : IndexState → ObjectName → Option ℕ
index_at s name = lookup (λ n. is_eq (name_cmp name n)) s.entries

-- the entries with that index under that name
abbrev pub with_index : IndexEntries → ObjectName → ℕ → IndexEntries
with_index entries name index = insert_entry name_cmp entries name index

-- the entries without the one of that name
abbrev pub without_name : IndexEntries → ObjectName → IndexEntries
without_name entries name = remove_entry (λ n. is_eq (name_cmp name n)) entries

-- the entries with the index of one name under another, where the first is held
abbrev pub moved_name : IndexEntries → (from to : ObjectName) → IndexEntries
moved_name entries from to = elim (lookup (λ n. is_eq (name_cmp from n)) entries) [
  | Some index ↦ with_index (without_name entries from) to index
  | None ↦ entries
]
