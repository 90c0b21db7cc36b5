-- What a mount tells of a store.
use Rattle.std.proofs.Common.{ℕ, List, [], ◌∷◌, find, Option, Some, None, option_map, is_eq, refl, sym, ap, ◌∙◌, subst}
use Rattle.std.specs.Prelude.{Contains}
use Rattle.disk_model.specs.State.{FileState}
use Rattle.store_model.specs.Name.{name_cmp}
use Rattle.store_model.specs.Object.{ObjectMap, object_at}
use Rattle.dir_records.specs.declared.entry.DirEntry.{DirEntry}
use Rattle.history_seats.specs.Mounts.{MountedEntry}
use Rattle.crash_core.specs.EntryLists.{AreSingle}
use Rattle.crash_core.specs.MountedObject.{root_of}
use Rattle.core_laws.specs.Opened.{HasMounted, IsMountOf, IsMountedAs}
use Rattle.core_laws.proofs.Contained.{contains_mapped}
use Rattle.core_laws.specs.Decodings.{IsReal}
use Rattle.core_laws.specs.Stores.{OpensMounted, Store}
use Rattle.core_laws.specs.MapLaws.{AreMountedApart}
use Rattle.core_laws.proofs.Images.{image_real}
use Rattle.core_laws.specs.TieLaws.{AreRising}
use Rattle.object_calls.specs.MountedEntries.{listed, mounted_entries, mounted_entry}
use Rattle.object_calls.specs.MountedStores.{IsMountedStore}
use Rattle.object_calls.specs.MountLaws.{MountsTellEntries, TellsEntries}
use Rattle.object_calls.proofs.ListedEntries.{found_there, listed_at, other_file, single_rest, told_of}
use Rattle.object_calls.proofs.OpeningMaps.{object_at-opening, opening-rises}

module _ (store : Store) (files : ℕ → FileState) (entries : List (Option DirEntry)) (o : IsMountedStore store files entries) where
  abbrev told : List MountedEntry
  told = mounted_entries store.keys files entries

  mounted_as : (e : DirEntry) → IsMountedAs store.keys files e (mounted_entry store.keys files e)
  mounted_as e = record {
    entry = refl;
    version = record { root = refl; app = refl; size = refl; attributes = refl };
    shown = λ honest. record { selects = refl; loads = refl; object = refl };
  }

  has_mounted : (m : MountedEntry) → Contains told m → HasMounted store.keys files entries m
  has_mounted m there =
      let t = told_of store.keys files entries m there in
      record { index = t.index; entry = t.entry; at = t.at; told = subst (IsMountedAs store.keys files t.entry) t.is (mounted_as t.entry) }

  mount_is : IsMountOf store.keys files entries store.mounted
  mount_is = record {
    forms = o.forms;
    current = o.current;
    each = λ index e at. (
      mounted_entry store.keys files e,
      subst (λ (l : List MountedEntry). Contains l (mounted_entry store.keys files e)) (sym o.told)
          (contains_mapped (mounted_entry store.keys files) (listed entries) e (listed_at entries index e at)),
      refl,
    );
    back = λ m there. has_mounted m (subst (λ (l : List MountedEntry). Contains l m) o.told there);
    settled = λ index e at honest. o.synced index e at;
  }

  real_told : (m : MountedEntry) → Contains store.mounted.entries m → IsReal store.keys m.version
  real_told m there =
      let t = told_of store.keys files entries m (subst (λ (l : List MountedEntry). Contains l m) o.told there) in
      let e : DirEntry = t.entry in
      subst (λ (x : MountedEntry). IsReal store.keys x.version) t.is (image_real store.keys (files e.file).reads (root_of e) e.app e.size e.attributes (o.sound e.file).reads)

  apart_from : (rest : List (Option DirEntry)) → AreSingle rest → AreMountedApart (mounted_entries store.keys files rest)
  apart_from [] single = tt
  apart_from (None ∷ rest) single = apart_from rest (single_rest None rest single)
  apart_from (Some x ∷ rest) single = (
    λ name m found. other_file store.keys files x rest m single (found_there (λ (y : MountedEntry). is_eq (name_cmp name y.entry.name)) (mounted_entries store.keys files rest) m found),
    apart_from rest (single_rest (Some x) rest single),
  )

  objects_told : OpensMounted store
  objects_told name =
      ap (λ (m : ObjectMap). object_at m name) o.objects
      ∙ object_at-opening store.keys files entries name
      ∙ ap (λ (l : List MountedEntry). option_map (λ (y : MountedEntry). y.version.object) (find (λ (y : MountedEntry). is_eq (name_cmp name y.entry.name)) l)) (sym o.told)

  pub tells : TellsEntries store files entries
  tells = record {
    mount = mount_is;
    apart = subst AreMountedApart (sym o.told) (apart_from entries o.forms.single);
    real = real_told;
    objects = objects_told;
    rising = subst AreRising (sym o.objects) (opening-rises store.keys files entries);
  }

pub mounts_tell_entries : MountsTellEntries
mounts_tell_entries store files entries o = tells store files entries o
