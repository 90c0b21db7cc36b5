-- The line of an object as it is shown.
use Rattle.std.specs.Prelude.{ℕ, List}
use Rattle.script_text.specs.BadBlocks.{members_of}
use Rattle.store_model.specs.declared.name.ObjectName.{ObjectName}
use Rattle.store_model.specs.Object.{Object, Damaged as DamagedObject, Sound as SoundObject}
use Rattle.object_calls.specs.declared.shown_object.Shown.{Shown}
use Rattle.object_calls.specs.declared.shown_object.ShownObject.{ShownObject}
use Rattle.object_calls.specs.declared.shown_object.ShownObject.TheVariants.{Damaged, Sound}
use Rattle.run_acts.specs.Lines.{object_line}

-- the object that is shown
abbrev pub object_shown : ShownObject → (size : ℕ) → Object
object_shown Damaged size = DamagedObject size
object_shown (Sound attributes bytes bad) size = SoundObject (record { attributes = attributes; bytes = bytes; bad = members_of bad })

-- and its name
abbrev pub entry_shown : Shown → ObjectName × Object
entry_shown shown = (record { app = shown.app; id = shown.id }, object_shown shown.object shown.size)

abbrev pub shown_line : Shown → List ℕ
shown_line shown = object_line (entry_shown shown)
