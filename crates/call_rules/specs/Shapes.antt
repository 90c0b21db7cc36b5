-- Names and sizes of the objects beside the directory's entries, whatever the objects' files are.
use Rattle.std.specs.Prelude.{◌≡◌, ℕ, true, List, Option, Some}
use Rattle.std.specs.Ordering.{is_eq}
use Rattle.std.specs.Map.{keys_of}
use Rattle.std.specs.List.Sorted.{IsStrictlySortedBy}
use Rattle.store_model.specs.declared.name.ObjectName.{ObjectName}
use Rattle.store_model.specs.Name.{name_cmp}
use Rattle.store_model.specs.Object.{Object, ObjectMap, object_at, size_of}
use Rattle.dir_records.specs.declared.entry.DirEntry.{DirEntry}
use Rattle.core_laws.specs.Entries.{name_of}
use Rattle.core_laws.specs.EntryLists.{entry_at}

-- Each entry has an object of its name and its size, each object has an entry, and the objects lie in the order of their names.
pub record HasShape (entries : List (Option DirEntry)) (objects : ObjectMap) : Type 0 where
  pub each : (index : ℕ) (e : DirEntry) → entry_at entries index ≡ Some e
      → (object : Object) × (object_at objects (name_of e) ≡ Some object) × (size_of object ≡ e.size)
  pub back : (name : ObjectName) (object : Object) → object_at objects name ≡ Some object
      → (index : ℕ) × (e : DirEntry) × (entry_at entries index ≡ Some e) × (is_eq (name_cmp name (name_of e)) ≡ true)
  pub rising : IsStrictlySortedBy name_cmp (keys_of objects)
