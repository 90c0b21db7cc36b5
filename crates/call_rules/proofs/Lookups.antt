-- What a look-up by a name tells of the map of objects.
use Rattle.std.proofs.Common.{◌≡◌, ◌∙◌, List, Option, Some, is_some, sym, ap}
use Rattle.store_model.specs.declared.name.ObjectName.{ObjectName}
use Rattle.store_model.specs.Object.{ObjectMap, object_at, holds}
use Rattle.dir_records.specs.declared.entry.DirEntry.{DirEntry}
use Rattle.dir_index.specs.declared.Held.{Held}
use Rattle.dir_index.specs.EntryNames.{IsEntryNamed}
use Rattle.call_rules.specs.Shapes.{HasShape}
use Rattle.call_rules.proofs.LookedUp.{named_objects}
use Rattle.call_rules.specs.Objects.{HasObject}

module _ (entries : List (Option DirEntry)) (objects : ObjectMap) (shape : HasShape entries objects) (name : ObjectName) where
  -- an entry of that name has an object of its size
  pub entry_object : (held : Held) → IsEntryNamed entries name (Some held) → HasObject objects name (held.entry).size
  entry_object held is =
      let there = shape.each held.index held.entry is.0 in record {
        object = there.0;
        at = ap (object_at objects) (sym is.1) ∙ there.1;
        sized = there.2;
      }

  -- a name is held exactly where an entry has it
  pub held_is : (found : Option Held) → IsEntryNamed entries name found → holds objects name ≡ is_some found
  held_is found is = (named_objects entries objects name found shape is).0
