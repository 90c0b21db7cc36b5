-- The shape of the map after a change that a commit makes.
use Rattle.std.proofs.Common.{◌≡◌, ◌<◌, ℕ, zero, suc, List, [], ◌∷◌, length, is_some, Option, Some, None, refl, sym, ap, ◌∙◌, subst, is_eq}
use Rattle.std.specs.Prelude.{slice_set}
use Rattle.std.specs.List.Sorted.{IsStrictlySortedBy}
use Rattle.std.proofs.lemmas.Map.{keys-set_value}
use Rattle.std.proofs.Math.Seq.{lt-length-set}
use Rattle.store_model.specs.declared.name.ObjectName.{ObjectName}
use Rattle.store_model.specs.Name.{name_cmp}
use Rattle.store_model.specs.Object.{Object, ObjectMap, object_at, size_of, with_object, changed_object, without_object, moved_object}
use Rattle.store_model.specs.Makes.{Change, Move, Remove}
use Rattle.store_model.specs.Makes.{Put as PutObject}
use Rattle.store_model.proofs.Maps.{at, moved_object-held}
use Rattle.store_model.proofs.MapLaws.{object_at-with, object_at-changed, rising-with}
use Rattle.dir_records.specs.declared.entry.DirEntry.{DirEntry}
use Rattle.core_laws.specs.Entries.{name_of}
use Rattle.core_laws.specs.EntryLists.{AreDistinct, entry_at}
use Rattle.core_laws.specs.declared.EntryChange.TheVariants.{Put, Clear}
use Rattle.core_laws.specs.EntryChanges.{IsEntryOf, IsPlaceOf}
use Rattle.core_laws.proofs.EntryMaps.{self}
use Rattle.core_laws.proofs.Lists.{set_here}
use Rattle.call_rules.specs.Shapes.{HasShape}
use Rattle.call_rules.specs.ChangeLaws.{ChangesKeepShape}
use Rattle.call_rules.proofs.ChangedShapes.{cleared_shape, put_shape}

-- what is put at a cleared place is put there
set_twice : {A : Type 0} (xs : List A) (k : ℕ) (x y : A) → slice_set (slice_set xs k x) k y ≡ slice_set xs k y
set_twice [] k x y = refl
set_twice (z ∷ xs) zero x y = refl
set_twice (z ∷ xs) (suc k) x y = ap (λ l. z ∷ l) (set_twice xs k x y)

module _ (entries : List (Option DirEntry)) (objects : ObjectMap) (index : ℕ) (e : DirEntry) (object : Object) where
  -- a new object, or one in place of another
  created_shape : IsPlaceOf (name_of e) (entry_at entries index) → index < length entries → e.size ≡ size_of object
      → AreDistinct (slice_set entries index (Some e)) → HasShape entries objects → HasShape (slice_set entries index (Some e)) (with_object objects (name_of e) object)
  created_shape place lt sized distinct shape =
      put_shape entries objects (with_object objects (name_of e) object) index e object shape place distinct lt sized
      (λ q. object_at-with objects (name_of e) q object) (rising-with objects (name_of e) object shape.rising)

  -- an object that changed
  rewritten_shape : IsEntryOf entries index (name_of e) → index < length entries → e.size ≡ size_of object
      → AreDistinct (slice_set entries index (Some e)) → HasShape entries objects → HasShape (slice_set entries index (Some e)) (changed_object objects (name_of e) object)
  rewritten_shape was lt sized distinct shape =
      let held = shape.each index was.entry was.at in
      let there : object_at objects (name_of e) ≡ Some held.0 = ap (object_at objects) (sym was.named) ∙ held.1 in
      put_shape entries objects (changed_object objects (name_of e) object) index e object shape
      (subst (IsPlaceOf (name_of e)) (sym was.at) was.named) distinct lt sized
      (λ q. object_at-changed objects (name_of e) q object (ap is_some there))
      (subst (IsStrictlySortedBy name_cmp) (sym (keys-set_value (at (name_of e)) objects object)) shape.rising)

  -- an object under another name
  renamed_shape : (old : ObjectName) → IsEntryOf entries index old → index < length entries → e.size ≡ size_of object → object_at objects old ≡ Some object
      → AreDistinct entries → AreDistinct (slice_set entries index (Some e)) → HasShape entries objects
      → HasShape (slice_set entries index (Some e)) (moved_object objects old (name_of e))
  renamed_shape old was lt sized held apart distinct shape =
      let bare : List (Option DirEntry) = slice_set entries index None in
      let same : slice_set bare index (Some e) ≡ slice_set entries index (Some e) = set_twice entries index None (Some e) in
      let rest : HasShape bare (without_object objects old) =
      cleared_shape entries objects index was.entry old was.at (ap (at old) was.named ∙ ap is_eq (self old)) apart shape in
      subst (λ (m : ObjectMap). HasShape (slice_set entries index (Some e)) m) (sym (moved_object-held objects old (name_of e) object held))
      (subst (λ (l : List (Option DirEntry)). HasShape l (with_object (without_object objects old) (name_of e) object)) same
      (put_shape bare (without_object objects old) (with_object (without_object objects old) (name_of e) object) index e object rest
      (subst (IsPlaceOf (name_of e)) (sym (set_here entries index None lt)) tt)
      (subst AreDistinct (sym same) distinct)
      (lt-length-set entries index None lt)
      sized
      (λ q. object_at-with (without_object objects old) (name_of e) q object)
      (rising-with (without_object objects old) (name_of e) object rest.rising)))

-- A change that a commit makes keeps the shape.
pub change_keeps : ChangesKeepShape
change_keeps objects entries counter (PutObject name x) (Put index e) object is apart distinct shape =
    subst (λ (n : ObjectName). HasShape (slice_set entries index (Some e)) (with_object objects n x)) is.enters.0.named
    (created_shape entries objects index e x (subst (λ (n : ObjectName). IsPlaceOf n (entry_at entries index)) (sym is.enters.0.named) is.enters.0.place)
    is.place (is.sized ∙ ap size_of is.enters.1) distinct shape)
change_keeps objects entries counter (Change name x) (Put index e) object is apart distinct shape =
    subst (λ (n : ObjectName). HasShape (slice_set entries index (Some e)) (changed_object objects n x)) is.enters.0.named
    (rewritten_shape entries objects index e x (subst (IsEntryOf entries index) (sym is.enters.0.named) is.enters.0.was)
    is.place (is.sized ∙ ap size_of is.enters.1) distinct shape)
change_keeps objects entries counter (Move old new) (Put index e) object is apart distinct shape =
    subst (λ (n : ObjectName). HasShape (slice_set entries index (Some e)) (moved_object objects old n)) is.enters.0.named
    (renamed_shape entries objects index e object old is.enters.0.was is.place is.sized is.enters.1 apart distinct shape)
change_keeps objects entries counter (Remove name) (Clear index) object is apart distinct shape =
    cleared_shape entries objects index is.enters.entry name is.enters.at (ap (at name) is.enters.named ∙ ap is_eq (self name)) apart shape
change_keeps objects entries counter (PutObject name x) (Clear index) object is apart distinct shape = absurd is.enters
change_keeps objects entries counter (Change name x) (Clear index) object is apart distinct shape = absurd is.enters
change_keeps objects entries counter (Move old new) (Clear index) object is apart distinct shape = absurd is.enters
change_keeps objects entries counter (Remove name) (Put index e) object is apart distinct shape = absurd is.enters
