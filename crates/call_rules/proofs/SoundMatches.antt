-- A directory and a table that match a state match it as if each object were sound with no bad block.
use Rattle.std.proofs.Common.{◌≡◌, ◌∙◌, ℕ, true, List, [], Option, Some, None, replicate, refl, sym, ap, subst}
use Rattle.std.specs.Option.{option_map}
use Rattle.std.specs.Ordering.{is_eq}
use Rattle.std.specs.List.Sorted.{IsStrictlySortedBy}
use Rattle.store_model.specs.declared.name.ObjectName.{ObjectName}
use Rattle.store_model.specs.Name.{name_cmp}
use Rattle.store_model.specs.Object.{Object, Contents, Sound, Damaged, ObjectMap, object_at}
use Rattle.store_model.specs.Machine.{Session, MachineState}
use Rattle.store_model.proofs.Maps.{at}
use Rattle.store_model.proofs.MapLaws.{mapped, lookup-mapped}
use Rattle.store_model.proofs.Closeness.{same-keys}
use Rattle.dir_records.specs.declared.entry.DirEntry.{DirEntry}
use Rattle.open_table.specs.Table.{TableState}
use Rattle.app_totals.specs.Meant.{sound_object, sound_state}
use Rattle.app_totals.proofs.Listings.{size_of-sound, listing-sound}
use Rattle.core_laws.specs.Entries.{name_of}
use Rattle.core_laws.specs.EntryLists.{entry_at}
use Rattle.call_rules.specs.Shapes.{HasShape}
use Rattle.call_rules.specs.Matches.{Matches}

sound_shape : (entries : List (Option DirEntry)) (objects : ObjectMap) → HasShape entries objects → HasShape entries (mapped sound_object objects)
sound_shape entries objects shape = record {
  each = λ index e stood.
      let its = shape.each index e stood in
      (sound_object its.0, lookup-mapped sound_object (at (name_of e)) objects ∙ ap (option_map sound_object) its.1, size_of-sound its.0 ∙ its.2);
  back = λ name object found. one name object (object_at objects name) refl (sym (lookup-mapped sound_object (at name) objects) ∙ found);
  rising = subst (IsStrictlySortedBy name_cmp) (sym (same-keys objects (mapped sound_object objects) (listing-sound objects))) shape.rising;
}
  where
    one : (name : ObjectName) (object : Object) (o : Option Object) → object_at objects name ≡ o → option_map sound_object o ≡ Some object
        → (index : ℕ) × (e : DirEntry) × (entry_at entries index ≡ Some e) × (is_eq (name_cmp name (name_of e)) ≡ true)
    one name object None is there = absurd (cc (there))
    one name object (Some x) is there = shape.back name x is

pub sound_matches : (entries : List (Option DirEntry)) (table : TableState) (caller : Session) (s : MachineState) (i : ℕ) → Matches entries table caller s i → Matches entries table caller (sound_state s) i
sound_matches entries table caller s i m = record { shaped = sound_shape entries s.objects m.shaped; handles = m.handles; within = m.within; session = m.session }

-- contents with no bad block
pub record IsGood (object : Object) : Type 0 where
  pub contents : Contents
  pub is : object ≡ Sound contents
  pub good : contents.bad ≡ []

-- each object is so
pub all_good : (s : MachineState) (name : ObjectName) (object : Object) → object_at (sound_state s).objects name ≡ Some object → IsGood object
all_good s name object found = one (object_at s.objects name) (sym (lookup-mapped sound_object (at name) s.objects) ∙ found)
  where
    sound : (x : Object) → IsGood (sound_object x)
    sound (Sound c) = record { contents = record c { bad = [] }; is = refl; good = refl }
    sound (Damaged n) = record { contents = record { attributes = []; bytes = replicate n 0; bad = [] }; is = refl; good = refl }

    one : (o : Option Object) → option_map sound_object o ≡ Some object → IsGood object
    one None there = absurd (cc (there))
    one (Some x) there = let same : sound_object x ≡ object = cc (there) in subst IsGood same (sound x)
