-- What the line of a shown object is of.
use Rattle.std.specs.Prelude.{◌≡◌}
use Rattle.store_model.specs.Object.{Object}
use Rattle.store_model.specs.Sound.{IsObject}
use Rattle.object_calls.specs.declared.shown_object.Shown.{Shown}
use Rattle.object_calls.specs.ShownObjects.{ShowsObject}
use Rattle.run_acts.specs.Lines.{object_line}
use Rattle.run_acts.specs.LineObjects.{shown_line}

-- The line of what shows an object is the line of that object.
abbrev pub ShownLinesAreOfObjects : Type 0
ShownLinesAreOfObjects =
    (shown : Shown) (object : Object) → ShowsObject shown.object shown.size object → IsObject object
    → shown_line shown ≡ object_line (record { app = shown.app; id = shown.id }, object)
