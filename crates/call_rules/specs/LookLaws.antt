-- What is looked up among the entries, beside what the machine tests of its map.
use Rattle.std.specs.Prelude.{◌≡◌, ℕ, ◌&&◌, not, is_none, is_some, List, length, Option, Some, None, option_map}
use Rattle.std.specs.List.{list_any}
use Rattle.enumerators.specs.declared.cursor.Cursor.{Cursor}
use Rattle.enumerators.specs.declared.cursor.Cursor.TheVariants.{First, After}
use Rattle.store_model.specs.declared.name.ObjectName.{ObjectName}
use Rattle.store_model.specs.Object.{ObjectMap, holds, most_objects, size_at}
use Rattle.store_model.specs.Handles.{lacks_room}
use Rattle.store_model.specs.Enumerating.{is_of, next_object, shown}
use Rattle.dir_records.specs.declared.entry.DirEntry.{DirEntry}
use Rattle.core_laws.specs.EntryLists.{AreDistinct}
use Rattle.dir_index.specs.declared.Held.{Held}
use Rattle.dir_index.specs.EntryNames.{IsEntryNamed, IsFirstFree, IsNextAbove}
use Rattle.call_rules.specs.Shapes.{HasShape}

-- the size of the entry that was found, if any
abbrev pub found_size : Option Held → ℕ
found_size None = 0
found_size (Some held) = held.entry.size

-- the cursor of an enumerator that has started, and gave that identifier last, if any
abbrev pub cursor_after : Option (List ℕ) → Cursor
cursor_after None = First
cursor_after (Some id) = After id

-- A name is held exactly where an entry has it, and its object has that entry's size.
abbrev pub NamedEntriesAreObjects : Type 0
NamedEntriesAreObjects =
    (entries : List (Option DirEntry)) (objects : ObjectMap) (name : ObjectName) (found : Option Held) → HasShape entries objects
    → IsEntryNamed entries name found → (holds objects name ≡ is_some found) × (size_at objects name ≡ found_size found)

-- A name lacks room exactly where it is not held and no entry is free.
abbrev pub FreePlacesAreRoom : Type 0
FreePlacesAreRoom =
    (entries : List (Option DirEntry)) (objects : ObjectMap) (name : ObjectName) (free : Option ℕ) → length entries ≡ most_objects → AreDistinct entries
    → HasShape entries objects → IsFirstFree entries free → lacks_room objects name ≡ (not (holds objects name) && is_none free)

-- The next object has the identifier and the size of the next entry.
abbrev pub NextEntriesAreNextObjects : Type 0
NextEntriesAreNextObjects =
    (entries : List (Option DirEntry)) (objects : ObjectMap) (app : List ℕ) (after : Option (List ℕ)) (next : Option DirEntry) → HasShape entries objects
    → IsNextAbove entries app after next → option_map shown (next_object objects app (cursor_after after)) ≡ option_map (λ e. (e.id, e.size)) next

-- An application has an object exactly where it has an entry.
abbrev pub ApplicationsAreListed : Type 0
ApplicationsAreListed =
    (entries : List (Option DirEntry)) (objects : ObjectMap) (app : List ℕ) (first : Option DirEntry) → HasShape entries objects
    → IsNextAbove entries app None first → list_any (is_of app) objects ≡ is_some first
