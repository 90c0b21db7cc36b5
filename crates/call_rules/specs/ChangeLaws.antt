-- The change that a commit makes keeps the shape of the map.
use Rattle.std.specs.Prelude.{ℕ, List, Option}
use Rattle.store_model.specs.Object.{Object, ObjectMap}
use Rattle.store_model.specs.Makes.{MapChange, changed_map}
use Rattle.dir_records.specs.declared.entry.DirEntry.{DirEntry}
use Rattle.core_laws.specs.EntryLists.{AreDistinct}
use Rattle.core_laws.specs.declared.EntryChange.{EntryChange}
use Rattle.core_laws.specs.EntryChanges.{IsChange, changed}
use Rattle.call_rules.specs.Shapes.{HasShape}

-- Of a create, a write, a truncation, a rename and a delete: the entries with the change are those of the changed map.
abbrev pub ChangesKeepShape : Type 0
ChangesKeepShape =
    (objects : ObjectMap) (entries : List (Option DirEntry)) (counter : ℕ) (made : MapChange) (change : EntryChange) (object : Object)
    → IsChange objects entries counter made change object → AreDistinct entries → AreDistinct (changed entries change)
    → HasShape entries objects → HasShape (changed entries change) (changed_map made objects)
