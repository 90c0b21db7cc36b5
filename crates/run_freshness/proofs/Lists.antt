-- The objects of a list, beside a bench that was closed.
use Rattle.std.proofs.Common.{◌≡◌, ◌⊎◌, inl, inr, ℕ, List, [], ◌∷◌, unwrap_or, Option, Some, None, refl, sym, ap, subst, ◌∙◌}
use Rattle.std.specs.Option.{option_map}
use Rattle.disk_model.specs.State.{FileState, Sound as SoundFile}
use Rattle.hmac_keys.specs.declared.Keys.{Keys}
use Rattle.hmac_keys.specs.KeyTable.{rpmb_key, ssk, tsk}
use Rattle.tee_types.specs.Limits.{directory_file}
use Rattle.rpmb_card.specs.Card.{CardState}
use Rattle.rpmb_card.specs.Port.{PortState}
use Rattle.rpmb_host.specs.Honest.{HasCard}
use Rattle.store_model.specs.declared.name.ObjectName.{ObjectName}
use Rattle.store_model.specs.Object.{Object, ObjectMap, Damaged as DamagedObject, object_at}
use Rattle.dir_records.specs.declared.entry.DirEntry.{DirEntry}
use Rattle.dir_records.specs.Form.{HasForm}
use Rattle.crash_core.specs.DeviceKeys.{object_key}
use Rattle.crash_core.specs.Entries.{name_of}
use Rattle.crash_core.specs.EntryLists.{AreDistinct, entry_at}
use Rattle.crash_core.specs.Pictures.{block_zero}
use Rattle.core_laws.proofs.Mending.{size-object_decoded}
use Rattle.object_calls.specs.declared.shown_object.ShownObject.{ShownObject}
use Rattle.object_calls.specs.declared.shown_object.ShownObject.TheVariants.{Damaged, Sound}
use Rattle.object_calls.specs.OpeningEntries.{IsNonePast}
use Rattle.object_calls.specs.Next.{IsShown}
use Rattle.object_calls.specs.Opening.{bench_files, entries_in}
use Rattle.object_calls.specs.ShownObjects.{IsShownFrom}
use Rattle.run_acts.specs.LineObjects.{entry_shown, object_shown}
use Rattle.run_acts.specs.Benches.{BenchState}
use Rattle.run_acts.specs.Between.{AreSound}
use Rattle.run_acts.specs.ListedBenches.{ListsBench}
use Rattle.run_acts.specs.ListedObjects.{ShownStep, ShowsAll, name_shown, objects_of}
use Rattle.run_acts.proofs.ShownMaps.{as_map}
use Rattle.run_acts.proofs.ShownOrder.{HaveAll, IsUnder, shows_absent, shows_rising, shows_under}
use Rattle.freshness_laws.specs.Readings.{decoding_read}
use Rattle.freshness_laws.specs.Agreement.{MapsAgree, ObjectsAgree}
use Rattle.freshness_laws.specs.SeenStores.{SeenStore, map_seen, object_read, objects_read, objects_with}
use Rattle.freshness_laws.proofs.Maps.{maps_or}
use Rattle.freshness_laws.proofs.Objects.{damaged_behind}
use Rattle.freshness_laws.proofs.Pictures.{mounts_by}
use Rattle.freshness_laws.proofs.Stores.{directories_or}
use Rattle.run_freshness.specs.Seen.{picture_read}
use Rattle.run_freshness.specs.Shown.{IsFreshList, IsStepOf, ShownClash}
use Rattle.run_freshness.specs.Laws.{KeepsCard, ListsAreFresh}
use Rattle.object_calls.proofs.EntriesOf.{distinct_names, form_at}
use Rattle.run_freshness.proofs.Mounts.{closed_holds, mount_sees, moved}
use Rattle.run_freshness.proofs.Shown.{shown_or}

-- what an object that was shown under an entry is
record IsRead (keys : Keys) (first : ℕ → FileState) (all : List ShownStep) (e : DirEntry) (object : Object) : Type 0 where
  old : ℕ → FileState
  new : ℕ → FileState
  step : IsStepOf first all old new
  shown : ShownObject
  from : IsShownFrom (object_key keys e.app) (old e.file) (new e.file) e shown
  is : object ≡ object_shown shown e.size

module _ (keys : Keys) (entries : List (Option DirEntry)) (key : List ℕ) (keyed : key ≡ ssk keys.huk keys.chip) (first : ℕ → FileState) (all : List ShownStep) where
  read_one : (after : Option ObjectName) (files : ℕ → FileState) (s : ShownStep) (shown : IsShown entries after key files s.files s.shown) → IsStepOf first all files s.files
      → IsRead keys first all shown.entry (entry_shown s.shown).1
  read_one after files s shown step = record {
    old = files;
    new = s.files;
    step = step;
    shown = (s.shown).object;
    from = subst (λ (k : List ℕ). IsShownFrom (tsk k (shown.entry).app) (files (shown.entry).file) (s.files (shown.entry).file) shown.entry (s.shown).object) keyed (shown.object).read;
    is = ap (object_shown (s.shown).object) shown.size;
  }

  read_all : (after : Option ObjectName) (files : ℕ → FileState) (steps : List ShownStep) (last : Option ObjectName) (left : ℕ → FileState)
      (shows : ShowsAll entries key after files steps last left) → ((old new : ℕ → FileState) → IsStepOf files steps old new → IsStepOf first all old new)
      → HaveAll entries key (IsRead keys first all) after files steps last left shows
  read_all after files [] last left shows within = tt
  read_all after files (s ∷ steps) last left shows within =
      (read_one after files s shows.0 (within files s.files (inl (refl, refl))), read_all (Some (name_shown s.shown)) s.files steps last left shows.1 (λ old new at. within old new (inr at)))

  module _ (distinct : AreDistinct entries) (forms : (index : ℕ) (e : DirEntry) → entry_at entries index ≡ Some e → HasForm e)
      (last : Option ObjectName) (left : ℕ → FileState) (shows : ShowsAll entries key None first all last left) (none : IsNonePast entries last) where
    abbrev objects : ObjectMap
    objects = objects_of all

    abbrev own : DirEntry → Object
    own e = unwrap_or (object_at objects (name_of e)) (DamagedObject 0)

    found : (index : ℕ) (e : DirEntry) → entry_at entries index ≡ Some e → IsUnder entries key (IsRead keys first all) e objects
    found index e at = shows_under entries key (IsRead keys first all) distinct None first all last left shows (read_all None first all last left shows (λ old new at. at)) none index e at refl

    some_unwrapped : (o : Option Object) (x d : Object) → o ≡ Some x → (o ≡ Some (unwrap_or o d)) × (unwrap_or o d ≡ x)
    some_unwrapped None x d is = absurd (cc (is))
    some_unwrapped (Some y) x d is = let same : y ≡ x = cc (is) in (refl, same)

    pub objects_are : objects ≡ objects_with own entries
    objects_are = as_map own entries distinct objects (shows_rising entries key None first all last left shows)
        (λ index e at. let f = found index e at in (some_unwrapped (object_at objects (name_of e)) f.0 (DamagedObject 0) f.1).0)
        (shows_absent entries key None first all last left shows)

    module _ (block : List ℕ) (before : SeenStore keys block) (same : before.entries ≡ entries) where
      by_shown : (index : ℕ) (e : DirEntry) → entry_at entries index ≡ Some e → (r : IsRead keys first all e (own e)) → object_at objects (name_of e) ≡ Some (own e) → (shown : ShownObject) → r.shown ≡ shown
          → ObjectsAgree (object_read keys e (before.trees e)) (own e) ⊎ ShownClash before first all
      by_shown index e at r there Damaged is =
          inl (subst (ObjectsAgree (object_read keys e (before.trees e))) (sym (r.is ∙ ap (λ (x : ShownObject). object_shown x e.size) is))
          (damaged_behind e.size (object_read keys e (before.trees e)) (size-object_decoded e.size e.attributes (option_map (decoding_read (object_key keys e.app)) (before.trees e)))))
      by_shown index e at r there (Sound attributes bytes bad) is =
          let from = subst (IsShownFrom (object_key keys e.app) (r.old e.file) (r.new e.file) e) is r.from in
          let object_is : own e ≡ object_shown (Sound attributes bytes bad) e.size = r.is ∙ ap (λ (x : ShownObject). object_shown x e.size) is in
          elim (shown_or keys e (forms index e at) (r.old e.file) (r.new e.file) attributes bytes bad from (before.trees e)) [
            | inl agree ↦ inl (subst (ObjectsAgree (object_read keys e (before.trees e))) (sym object_is) agree)
            | inr c ↦ inr (record {
              index = index;
              entry = e;
              at = ap (λ (l : List (Option DirEntry)). entry_at l index) same ∙ at;
              first = c.first;
              is_first = c.is_first;
              old = r.old;
              new = r.new;
              step = r.step;
              attributes = attributes;
              bytes = bytes;
              bad = bad;
              read = from;
              shown = there ∙ ap (λ (o : Object). Some o) object_is;
              clash = c.clash;
            })
          ]

      each : (index : ℕ) (e : DirEntry) → entry_at entries index ≡ Some e → ObjectsAgree (object_read keys e (before.trees e)) (own e) ⊎ ShownClash before first all
      each index e at =
          let f = found index e at in
          let u = some_unwrapped (object_at objects (name_of e)) f.0 (DamagedObject 0) f.1 in
          let r : IsRead keys first all e (own e) = subst (IsRead keys first all e) (sym u.1) f.2 in
          by_shown index e at r u.0 r.shown refl

      pub list_or : MapsAgree (map_seen before) objects ⊎ ShownClash before first all
      list_or = elim (maps_or (ShownClash before first all) (λ e. object_read keys e (before.trees e)) own entries each) [
        | inr clash ↦ inr clash
        | inl agree ↦ inl (subst (λ (l : List (Option DirEntry)). MapsAgree (objects_read keys before.trees l) objects) (sym same)
            (subst (MapsAgree (objects_read keys before.trees entries)) (sym objects_are) agree))
      ]

module _ {F R : Type 0} (of_file : F → FileState) (of_port : R → PortState) (all_sound : (file : F) → SoundFile (of_file file)) (keys : Keys) (old new : BenchState) (objects : ObjectMap) (lines : List ℕ)
    (l : ListsBench of_file of_port keys old new objects lines) where
  pub fresh_list : (closed : BenchState) (card : CardState) → AreSound closed.files → HasCard closed.card (rpmb_key keys.huk) card → KeepsCard closed old → IsFreshList of_file of_port keys closed card (old.files directory_file) l.opened ((l.shows).listed).steps
  fresh_list closed card sound has keeps m is =
      let a = mounts_by keys (picture_read closed card) m is in
      let x = closed_holds of_file of_port all_sound keys closed sound card a.entries a.directory in
      let y = mount_sees of_file of_port all_sound keys old l.opened l.mounts card (moved of_file of_port all_sound keys closed old card has keeps) in
      elim (directories_or keys (block_zero card) x.seen y.seen) [
        | inr clash ↦ inr (record { before = record { seen = x.seen; held = x.held }; sees = y; clash = inl clash })
        | inl same ↦
            let are = (((l.mounts).gate).settled).entries in
            elim (list_or keys (entries_in l.opened) (l.opened).storage_key ((l.mounts).keyed).storage (bench_files of_file l.opened) ((l.shows).listed).steps (distinct_names (entries_in l.opened) are) (form_at (entries_in l.opened) are)
            (l.shows).last new.files ((l.shows).listed).shows (l.shows).whole (block_zero card) x.seen (sym same ∙ y.entries)) [
              | inl agree ↦ inl (subst (λ (o : ObjectMap). MapsAgree o (objects_of ((l.shows).listed).steps)) (sym x.objects_are ∙ a.objects_are) agree)
              | inr clash ↦ inr (record { before = record { seen = x.seen; held = x.held }; sees = y; clash = inr clash })
            ]
      ]

pub lists_fresh : {F R : Type 0} (of_file : F → FileState) (of_port : R → PortState) → ((file : F) → SoundFile (of_file file)) → ListsAreFresh of_file of_port
lists_fresh of_file of_port all_sound keys closed old new card objects lines sound has keeps l = fresh_list of_file of_port all_sound keys old new objects lines l closed card sound has keeps
