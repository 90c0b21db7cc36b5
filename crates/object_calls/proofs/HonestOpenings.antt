-- Where nothing comes back, a mounted store opens with its objects.
use Rattle.std.proofs.Common.{◌≡◌, ℕ, zero, suc, List, [], ◌∷◌, find, map, Option, Some, None, option_map, is_eq, inl, inr, refl, sym, ap, ◌∙◌, subst}
use Rattle.std.specs.Prelude.{Contains}
use Rattle.std.specs.Map.{keys_of}
use Rattle.std.proofs.lemmas.Bool.{cond-true}
use Rattle.std.proofs.lemmas.Map.Keys.{IsDistinct-from_sorted}
use Rattle.std.proofs.lemmas.Map.Views.{lookup-from_Contains}
use Rattle.disk_model.specs.State.{FileState, Sound}
use Rattle.tee_types.specs.Limits.{file_count}
use Rattle.rpmb_card.specs.Port.{PortState}
use Rattle.store_model.specs.declared.name.ObjectName.{ObjectName}
use Rattle.store_model.specs.Damage.{IsAlteredBack}
use Rattle.store_model.specs.Files.{FileMap}
use Rattle.store_model.specs.Name.{name_cmp}
use Rattle.store_model.specs.Object.{Object, ObjectMap, object_at}
use Rattle.store_model.specs.Record.{Record}
use Rattle.store_model.proofs.MapLaws.{alike}
use Rattle.dir_records.specs.declared.entry.DirEntry.{DirEntry}
use Rattle.history_seats.specs.Mounts.{MountedEntry}
use Rattle.history_seats.specs.Views.{GateView}
use Rattle.crash_core.specs.MountedObject.{root_of}
use Rattle.core_laws.proofs.Contained.{contains_first, contains_later, contains_none}
use Rattle.core_laws.specs.Answered.{AreAnswered}
use Rattle.core_laws.specs.EndLaws.{given_at}
use Rattle.core_laws.specs.TamperScenarios.{nothing_back}
use Rattle.core_laws.specs.Decodings.{IsReal}
use Rattle.core_laws.specs.Stores.{OpensMounted, Store, mounted_named, object_for, objects_under}
use Rattle.core_laws.proofs.Mending.{object_nothing, some_same}
use Rattle.core_laws.specs.TieLaws.{AreRising}
use Rattle.core_laws.proofs.Images.{image_real}
use Rattle.serial_calls.specs.ClosedStores.{tampered_below, tampered_in}
use Rattle.object_calls.specs.FinishedPhase.{AreAllHonest, LeavesStore}
use Rattle.object_calls.specs.MountedStores.{IsMountedStore}
use Rattle.object_calls.specs.OpenedStores.{IsStoreOf}
use Rattle.object_calls.specs.Opening.{OpeningValue, bench_files, entries_in}
use Rattle.object_calls.proofs.Files.{numbered_sound}
use Rattle.object_calls.proofs.ListedEntries.{found_there, told_of}
use Rattle.object_calls.proofs.MountedViews.{mounts_tell_entries}
use Rattle.object_calls.proofs.OpeningMaps.{object_at-opening, opening-rises}
use Rattle.object_calls.specs.Services.{OpensUnchanged}

-- a map of a list whose elements stay
map-same : {X : Type 0} (f : X → X) (xs : List X) → ((x : X) → Contains xs x → f x ≡ x) → map f xs ≡ xs
map-same f [] each = refl
map-same f (x ∷ xs) each = λ i. each x (contains_first x x xs refl) i ∷ map-same f xs (λ y there. each y (contains_later x y xs there)) i

-- a map altered back where nothing came back: it is itself
pub altered-same : {Root : Type 0} (files : FileMap) (tampered : List ℕ) (records : List (Record Root)) (objects : ObjectMap) → IsAlteredBack files tampered records objects objects
altered-same files tampered records [] = tt
altered-same files tampered records (e ∷ objects) = (record { name = refl; object = inl refl }, altered-same files tampered records objects)

module _ (store : Store) (opens : OpensMounted store) (rising : AreRising store.objects)
    (real : (m : MountedEntry) → Contains store.mounted.entries m → IsReal store.keys m.version) (tampered : List ℕ) where
  -- an object of the map is found by its name
  found : (e : ObjectName × Object) → Contains store.objects e → object_at store.objects e.0 ≡ Some e.1
  found e there = lookup-from_Contains alike e.0 e.1 store.objects (IsDistinct-from_sorted name_cmp (keys_of store.objects) rising) there

  stays : (e : ObjectName × Object) → object_at store.objects e.0 ≡ Some e.1 → object_for store.keys (nothing_back tampered) (mounted_named e.0 store.mounted) e.1 ≡ e.1
  stays e has = by_entry (mounted_named e.0 store.mounted) refl
    where
      by_entry : (o : Option MountedEntry) → mounted_named e.0 store.mounted ≡ o → object_for store.keys (nothing_back tampered) o e.1 ≡ e.1
      by_entry None is = refl
      by_entry (Some m) is =
          object_nothing store.keys tampered m.entry.file m.entry.generation m.version (real m (found_there (λ (x : MountedEntry). is_eq (name_cmp e.0 x.entry.name)) store.mounted.entries m is))
          ∙ some_same m.version.object e.1 (sym (ap (option_map (λ (x : MountedEntry). x.version.object)) is) ∙ sym (opens e.0) ∙ has)

  objects_under-same : objects_under store (nothing_back tampered) ≡ store.objects
  objects_under-same =
      map-same (λ (e : ObjectName × Object). (e.0, object_for store.keys (nothing_back tampered) (mounted_named e.0 store.mounted) e.1)) store.objects
      (λ e there. λ i. (e.0, stays e (found e there) i))

-- so of the store of any opening, whose files are sound
module _ {F R : Type 0} (state : F → FileState) (sound : (f : F) → Sound (state f)) (store : Store) (o : OpeningValue F R) (is : IsStoreOf state store o) where
  real-found : (m : MountedEntry) → Contains store.mounted.entries m → IsReal store.keys m.version
  real-found m there =
      let t = told_of store.keys (bench_files state o) (entries_in o) m (subst (λ (x : Store). Contains x.mounted.entries m) is.is there) in
      let e : DirEntry = t.entry in
      subst (λ (x : MountedEntry). IsReal store.keys x.version) t.is
      (image_real store.keys (bench_files state o e.file).reads (root_of e) e.app e.size e.attributes (numbered_sound state sound o.spare o.gate.dir.file o.files e.file).reads)

  objects-found : OpensMounted store
  objects-found name =
      ap (λ (x : Store). object_at x.objects name) is.is
      ∙ object_at-opening store.keys (bench_files state o) (entries_in o) name
      ∙ ap (λ (x : Store). option_map (λ (y : MountedEntry). y.version.object) (find (λ (y : MountedEntry). is_eq (name_cmp name y.entry.name)) x.mounted.entries)) (sym is.is)

  pub rising-found : AreRising store.objects
  rising-found = subst (λ (x : Store). AreRising x.objects) (sym is.is) (opening-rises store.keys (bench_files state o) (entries_in o))

  pub unchanged-found : OpensUnchanged store
  unchanged-found tampered = objects_under-same store objects-found rising-found real-found tampered

-- where every file is honest none is another
none-below : (files : ℕ → FileState) → AreAllHonest files → (count : ℕ) → tampered_below files count ≡ []
unfolding tampered_below
none-below files honest zero = refl
none-below files honest (suc file) = cond-true (files file).honest (tampered_below files file) (file ∷ tampered_below files file) (honest file) ∙ none-below files honest file

pub tampered-none : (files : ℕ → FileState) → AreAllHonest files → tampered_in files ≡ []
tampered-none files honest = none-below files honest file_count

-- and then the history is answered, as it stands
pub answered-honest : (store : Store) (view : GateView) (files : ℕ → FileState) (port : PortState) (doubt : Option ℕ) → LeavesStore store view files port doubt → AreAllHonest files
    → AreAnswered store (nothing_back []) view.all
answered-honest store view files port doubt leaves honest = elim ((leaves.altered).answered (nothing_back []) (sym (tampered-none files honest))) [
  | inl answered ↦ answered
  | inr ended ↦
      let given = given_at ended.ends in
      absurd (contains_none given.tag.file (ended.owed given.tag.file (ap (option_map (λ tag. tag.file)) given.tagged)))
]

pub opens_unchanged : (store : Store) (files : ℕ → FileState) (entries : List (Option DirEntry)) → IsMountedStore store files entries → OpensUnchanged store
opens_unchanged store files entries o tampered = let t = mounts_tell_entries store files entries o in objects_under-same store t.objects t.rising t.real tampered
