-- A map that has each entry's object under its name, and no other name, is the map of the entries.
use Rattle.std.proofs.Common.{◌≡◌, ◌∙◌, ℕ, true, false, List, [], ◌∷◌, map, option_map, Option, Some, None, unwrap_or, refl, sym, ap, inl, inr}
use Rattle.std.specs.Map.{keys_of}
use Rattle.disk_model.specs.State.{FileState}
use Rattle.dir_records.specs.declared.entry.DirEntry.{DirEntry}
use Rattle.store_model.specs.declared.name.ObjectName.{ObjectName}
use Rattle.store_model.specs.Object.{Object, ObjectMap, Damaged, object_at, with_object}
use Rattle.store_model.proofs.Closeness.{IsRising}
use Rattle.store_model.proofs.MapLaws.{alike, mapped, mapped-with, object_at-tied}
use Rattle.store_model.proofs.Maps.{at}
use Rattle.crash_core.specs.Entries.{name_of}
use Rattle.crash_core.specs.EntryLists.{AreDistinct, entry_at}
use Rattle.crash_core.specs.Holding.{held_at}
use Rattle.crash_core.specs.Mounting.{Held, map_of}
use Rattle.crash_core.proofs.EntryMaps.{IsApart}
use Rattle.crash_core.proofs.Lists.{map_at}
use Rattle.quota_store.proofs.SameMaps.{map_found, map_none, map_rising, same_maps}
use Rattle.object_calls.specs.OpeningEntries.{IsNonePast}
use Rattle.run_acts.specs.ListedObjects.{ShownStep, ShowsAll, name_shown, objects_of}
use Rattle.run_acts.proofs.ShownOrder.{HaveAll, find_named, shows_absent, shows_rising, shows_under}

-- an entry, with an object
abbrev pub with_it : (DirEntry → Object) → DirEntry → Held
with_it object e = record { entry = e; object = object e }

abbrev pub all_with : (DirEntry → Object) → List (Option DirEntry) → List (Option Held)
all_with object entries = map (option_map (with_it object)) entries

-- what is held is an entry's
entry_held : (object : DirEntry → Object) (o : Option DirEntry) (h : Held) → option_map (with_it object) o ≡ Some h → (e : DirEntry) × (o ≡ Some e) × (with_it object e ≡ h)
entry_held object None h is = absurd (cc (is))
entry_held object (Some e) h is = let same : with_it object e ≡ h = cc (is) in (e, refl, same)

module _ (object : DirEntry → Object) (entries : List (Option DirEntry)) where
  held_there : (index : ℕ) (e : DirEntry) → entry_at entries index ≡ Some e → held_at (all_with object entries) index ≡ Some (with_it object e)
  held_there index e is = map_at (option_map (with_it object)) entries index refl ∙ ap (option_map (with_it object)) is

  entry_there : (index : ℕ) (h : Held) → held_at (all_with object entries) index ≡ Some h → (e : DirEntry) × (entry_at entries index ≡ Some e) × (with_it object e ≡ h)
  entry_there index h stood = entry_held object (entry_at entries index) h (sym (map_at (option_map (with_it object)) entries index refl) ∙ stood)

  apart_held : AreDistinct entries → (index : ℕ) (e : DirEntry) → entry_at entries index ≡ Some e → IsApart (all_with object entries) index (name_of e)
  apart_held distinct index e is other y ne stood =
      let found = entry_there other y stood in
      ap (λ (h : Held). at (name_of e) (name_of h.entry)) (sym found.2) ∙ distinct index e is other found.0 ne found.1

  pub as_map : AreDistinct entries → (m : ObjectMap) → IsRising m → ((index : ℕ) (e : DirEntry) → entry_at entries index ≡ Some e → object_at m (name_of e) ≡ Some (object e))
      → ((q : ObjectName) → ((index : ℕ) (e : DirEntry) → entry_at entries index ≡ Some e → at (name_of e) q ≡ false) → object_at m q ≡ None)
      → m ≡ map_of (all_with object entries)
  as_map distinct m rising under absent = same_maps m (map_of held) rising (map_rising held) (λ q. elim (find_named entries q) [
    | inl found ↦
        let e : DirEntry = found.1 in
        let turned : at q (name_of e) ≡ true = alike.symm q (name_of e) ∙ found.3 in
        object_at-tied m q (name_of e) turned ∙ under found.0 e found.2
        ∙ sym (map_found held found.0 (with_it object e) q (held_there found.0 e found.2) (apart_held distinct found.0 e found.2) found.3)
    | inr none ↦
        absent q none
        ∙ sym (map_none held q (λ index h stood.
        let there = entry_there index h stood in
        ap (λ (x : Held). at (name_of x.entry) q) (sym there.2) ∙ none index there.0 there.1))
  ])
    where
      held : List (Option Held)
      held = all_with object entries

-- the names are the entries', whatever the objects are
mapped_all : (f : Object → Object) (object : DirEntry → Object) (entries : List (Option DirEntry)) → mapped f (map_of (all_with object entries)) ≡ map_of (all_with (λ e. f (object e)) entries)
mapped_all f object [] = refl
mapped_all f object (None ∷ entries) = mapped_all f object entries
mapped_all f object (Some e ∷ entries) =
    mapped-with f (name_of e) (object e) (map_of (all_with object entries))
    ∙ ap (λ (m : ObjectMap). with_object m (name_of e) (f (object e))) (mapped_all f object entries)

keys-mapped : (f : Object → Object) (m : ObjectMap) → keys_of (mapped f m) ≡ keys_of m
keys-mapped f [] = refl
keys-mapped f (e ∷ m) = ap (λ (ks : List ObjectName). e.0 ∷ ks) (keys-mapped f m)

pub same_names : (a b : DirEntry → Object) (entries : List (Option DirEntry)) → keys_of (map_of (all_with a entries)) ≡ keys_of (map_of (all_with b entries))
same_names a b entries =
    let f : Object → Object = λ x. Damaged 0 in
    sym (keys-mapped f (map_of (all_with a entries))) ∙ ap keys_of (mapped_all f a entries ∙ sym (mapped_all f b entries)) ∙ keys-mapped f (map_of (all_with b entries))

some_unwrapped : (o : Option Object) (x d : Object) → o ≡ Some x → o ≡ Some (unwrap_or o d)
some_unwrapped None x d is = absurd (cc (is))
some_unwrapped (Some y) x d is = refl

module _ (entries : List (Option DirEntry)) (key : List ℕ) (distinct : AreDistinct entries) (files : ℕ → FileState) (steps : List ShownStep) (last : Option ObjectName) (left : ℕ → FileState)
    (shows : ShowsAll entries key None files steps last left) (none : IsNonePast entries last) where
  -- where each object that was shown is as it should be
  pub shown_map : (object : DirEntry → Object) → HaveAll entries key (λ e x. x ≡ object e) None files steps last left shows → objects_of steps ≡ map_of (all_with object entries)
  shown_map object have = as_map object entries distinct (objects_of steps) (shows_rising entries key None files steps last left shows)
      (λ index e is. let under = shows_under entries key (λ e x. x ≡ object e) distinct None files steps last left shows have none index e is refl in under.1 ∙ ap (λ (x : Object). Some x) under.2)
      (shows_absent entries key None files steps last left shows)

  have_any : (after : Option ObjectName) (f : ℕ → FileState) (ss : List ShownStep) (s : ShowsAll entries key after f ss last left) → HaveAll entries key (λ e x. Unit {0}) after f ss last left s
  have_any after f [] s = tt
  have_any after f (x ∷ ss) s = (tt, have_any (Some (name_shown x.shown)) x.files ss s.1)

  -- of any files the names are the entries'
  pub shown_names : (object : DirEntry → Object) → keys_of (objects_of steps) ≡ keys_of (map_of (all_with object entries))
  shown_names object =
      let m : ObjectMap = objects_of steps in
      let own : DirEntry → Object = λ e. unwrap_or (object_at m (name_of e)) (Damaged 0) in
      ap keys_of (as_map own entries distinct m (shows_rising entries key None files steps last left shows)
      (λ index e is. let under = shows_under entries key (λ e x. Unit {0}) distinct None files steps last left shows (have_any None files steps shows) none index e is refl in
      some_unwrapped (object_at m (name_of e)) under.0 (Damaged 0) under.1)
      (shows_absent entries key None files steps last left shows))
      ∙ same_names own object entries
