-- Which names a map of a shape holds.
use Rattle.std.proofs.Common.{◌≡◌, ◌≢◌, ℕ, true, is_some, List, Option, Some, None, refl, sym, ap, ◌∙◌}
use Rattle.store_model.specs.declared.name.ObjectName.{ObjectName}
use Rattle.dir_records.specs.declared.entry.DirEntry.{DirEntry}
use Rattle.core_laws.specs.Entries.{name_of}
use Rattle.core_laws.specs.EntryChanges.{IsEntryOf}
use Rattle.core_laws.proofs.Names.{alike_is}
use Rattle.store_model.specs.Object.{Object, ObjectMap, holds, object_at, size_at, size_of}
use Rattle.core_laws.specs.EntryLists.{entry_at}
use Rattle.call_rules.specs.Shapes.{HasShape}
use Rattle.call_rules.specs.ShapeLaws.{HeldNamesAreListed}

-- the name of an entry is held, with its size
pub listed_held : (entries : List (Option DirEntry)) (objects : ObjectMap) (name : ObjectName) (index : ℕ) (e : DirEntry)
    → HasShape entries objects → entry_at entries index ≡ Some e → name_of e ≡ name
    → (holds objects name ≡ true) × (size_at objects name ≡ e.size)
listed_held entries objects name index e shape stood named =
    let held = shape.each index e stood in
    let stands : object_at objects name ≡ Some held.0 = ap (object_at objects) (sym named) ∙ held.1 in
    (ap is_some stands, ap (λ (o : Option Object). elim o [ Some object ↦ size_of object | None ↦ 0 ]) stands ∙ held.2)

-- the entry of an object
pub entry_of_object : (entries : List (Option DirEntry)) (objects : ObjectMap) (name : ObjectName) (object : Object) → HasShape entries objects
    → object_at objects name ≡ Some object → (index : ℕ) × IsEntryOf entries index name
entry_of_object entries objects name object shape stands =
    let listed = shape.back name object stands in
    (listed.0, record { entry = listed.1; at = listed.2; named = sym (alike_is name (name_of listed.1) listed.3) })

-- a name that is held is that of an entry
pub held_listed : HeldNamesAreListed
held_listed entries objects name shape held = by_object (object_at objects name) refl held
  where
    by_object : (o : Option Object) → object_at objects name ≡ o → is_some o ≡ true → (index : ℕ) × IsEntryOf entries index name
    by_object None stands is = absurd (cc (is))
    by_object (Some object) stands is = entry_of_object entries objects name object shape stands

-- a name that no entry has is that of no object
pub unlisted_free : (entries : List (Option DirEntry)) (objects : ObjectMap) (name : ObjectName) → HasShape entries objects
    → ((index : ℕ) (e : DirEntry) → entry_at entries index ≡ Some e → name_of e ≢ name) → object_at objects name ≡ None
unlisted_free entries objects name shape none = by_object (object_at objects name) refl
  where
    by_object : (o : Option Object) → object_at objects name ≡ o → o ≡ None
    by_object None stands = refl
    by_object (Some object) stands =
        let listed = entry_of_object entries objects name object shape stands in
        absurd (none listed.0 (listed.1).entry (listed.1).at (listed.1).named)
