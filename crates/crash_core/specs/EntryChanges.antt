-- The one entry of the directory that a commit changes.
use Rattle.std.specs.Prelude.{◌≡◌, ◌<◌, ◌+◌, ℕ, List, length, slice_set, Option, Some, None}
use Rattle.store_model.specs.declared.name.ObjectName.{ObjectName}
use Rattle.store_model.specs.Object.{Object, ObjectMap, object_at, size_of}
use Rattle.store_model.specs.Makes.{MapChange, Change, Move, Remove}
use Rattle.store_model.specs.Makes.{Put as PutObject}
use Rattle.dir_records.specs.declared.entry.DirEntry.{DirEntry}
use Rattle.crash_core.specs.declared.change.EntryChange.{EntryChange}
use Rattle.crash_core.specs.declared.change.EntryChange.TheVariants.{Put, Clear}
use Rattle.crash_core.specs.Entries.{name_of}
use Rattle.crash_core.specs.EntryLists.{entry_at}

-- the entries after the change
abbrev pub changed : List (Option DirEntry) → EntryChange → List (Option DirEntry)
changed entries (Put index e) = slice_set entries index (Some e)
changed entries (Clear index) = slice_set entries index None

abbrev pub index_of : EntryChange → ℕ
index_of (Put index e) = index
index_of (Clear index) = index

-- the file that the change puts
abbrev pub file_put : EntryChange → Option ℕ
file_put (Put index e) = Some e.file
file_put (Clear index) = None

-- the entry of that name stands at the index
pub record IsEntryOf (entries : List (Option DirEntry)) (index : ℕ) (name : ObjectName) : Type 0 where
  pub entry : DirEntry
  pub at : entry_at entries index ≡ Some entry
  pub named : name_of entry ≡ name

-- the place is free, or the entry of that name stands there
abbrev pub IsPlaceOf : ObjectName → Option DirEntry → Type 0
IsPlaceOf name None = Unit {0}
IsPlaceOf name (Some e) = name_of e ≡ name

-- The entry of a new object: it takes the place of the one of its name, or a free one. Its generation is the card's counter after the
-- commit.
pub record IsNewEntry (entries : List (Option DirEntry)) (counter index : ℕ) (e : DirEntry) (name : ObjectName) : Type 0 where
  pub named : name_of e ≡ name
  pub place : IsPlaceOf name (entry_at entries index)
  pub generation : e.generation ≡ counter + 1

-- The entry of an object that changed: it takes the place of the object's own, and keeps its file and its generation.
pub record IsNextEntry (entries : List (Option DirEntry)) (index : ℕ) (e : DirEntry) (old new : ObjectName) : Type 0 where
  pub was : IsEntryOf entries index old
  pub named : name_of e ≡ new
  pub file : e.file ≡ was.entry.file
  pub generation : e.generation ≡ was.entry.generation

-- The change of the entries enters that change of the map, with that object where it puts one.
abbrev pub Enters : MapChange → ObjectMap → List (Option DirEntry) → (counter : ℕ) → EntryChange → Object → Type 0
Enters (PutObject name object) objects entries counter (Put index e) put = IsNewEntry entries counter index e name × (put ≡ object)
Enters (Change name object) objects entries counter (Put index e) put = IsNextEntry entries index e name name × (put ≡ object)
Enters (Move old new) objects entries counter (Put index e) put = IsNextEntry entries index e old new × (object_at objects old ≡ Some put)
Enters (Remove name) objects entries counter (Clear index) put = IsEntryOf entries index name
Enters _ objects entries counter change put = ⊥

-- the entry that is put tells the object's size
abbrev pub TellsSize : EntryChange → Object → Type 0
TellsSize (Put index e) object = e.size ≡ size_of object
TellsSize (Clear index) object = Unit {0}

-- The change of the entries that a change of the map makes.
pub record IsChange (objects : ObjectMap) (entries : List (Option DirEntry)) (counter : ℕ) (made : MapChange) (change : EntryChange) (object : Object) : Type 0 where
  pub enters : Enters made objects entries counter change object
  pub place : index_of change < length entries
  pub sized : TellsSize change object
