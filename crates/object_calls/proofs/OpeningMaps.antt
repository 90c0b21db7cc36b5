-- The map of the objects that entries name, beside what the mount tells of the entries.
use Rattle.std.proofs.Common.{◌≡◌, ℕ, Bool, true, false, cond, List, [], ◌∷◌, find, Option, Some, None, option_map, is_eq, refl, ap, ◌∙◌}
use Rattle.std.specs.List.Sorted.{IsStrictlySortedBy}
use Rattle.disk_model.specs.State.{FileState}
use Rattle.hmac_keys.specs.declared.Keys.{Keys}
use Rattle.store_model.specs.declared.name.ObjectName.{ObjectName}
use Rattle.store_model.specs.Name.{name_cmp}
use Rattle.store_model.specs.Object.{Object, object_at}
use Rattle.store_model.proofs.Maps.{at}
use Rattle.store_model.proofs.MapLaws.{alike, object_at-with, rising-with}
use Rattle.dir_records.specs.declared.entry.DirEntry.{DirEntry}
use Rattle.crash_core.specs.DeviceKeys.{object_key}
use Rattle.crash_core.specs.Entries.{name_of}
use Rattle.crash_core.specs.MountedObject.{mounted_object}
use Rattle.crash_core.specs.Opening.{opening_map}
use Rattle.core_laws.specs.TieLaws.{AreRising}
use Rattle.object_calls.specs.MountedEntries.{mounted_entries, mounted_entry}

module _ (keys : Keys) (files : ℕ → FileState) where
  abbrev object_of : DirEntry → Object
  object_of e = mounted_object (object_key keys e.app) (files e.file).reads e

  -- each name has the object of the version that the mount tells
  pub object_at-opening : (entries : List (Option DirEntry)) (name : ObjectName)
      → object_at (opening_map keys files entries) name ≡ option_map (λ e. e.version.object) (find (λ e. is_eq (name_cmp name e.entry.name)) (mounted_entries keys files entries))
  object_at-opening [] name = refl
  object_at-opening (None ∷ entries) name = object_at-opening entries name
  object_at-opening (Some e ∷ entries) name =
      object_at-with (opening_map keys files entries) (name_of e) name (object_of e)
      ∙ ap (λ (b : Bool). cond b (Some (object_of e)) (object_at (opening_map keys files entries) name)) (alike.symm (name_of e) name)
      ∙ by_test (object_at-opening entries name) (at name (name_of e))
    where
      by_test : object_at (opening_map keys files entries) name ≡ option_map (λ x. x.version.object) (find (λ x. is_eq (name_cmp name x.entry.name)) (mounted_entries keys files entries))
          → (b : Bool) → cond b (Some (object_of e)) (object_at (opening_map keys files entries) name)
          ≡ option_map (λ x. x.version.object) (cond b (Some (mounted_entry keys files e)) (find (λ x. is_eq (name_cmp name x.entry.name)) (mounted_entries keys files entries)))
      by_test later true = refl
      by_test later false = later

  -- its names rise
  pub opening-rises : (entries : List (Option DirEntry)) → AreRising (opening_map keys files entries)
  unfolding IsStrictlySortedBy
  opening-rises [] = tt
  opening-rises (None ∷ entries) = opening-rises entries
  opening-rises (Some e ∷ entries) = rising-with (opening_map keys files entries) (name_of e) (object_of e) (opening-rises entries)
