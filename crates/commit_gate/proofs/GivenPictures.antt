-- Pictures of a closed store mount to the entries and versions that its records give, whatever became of its history.
use Rattle.std.proofs.Common.{◌≡◌, ℕ, ◌+◌, List, inl, inr, IsTrue, Option, Some, None, refl, sym, ap, ◌∙◌, subst, arith}
use Rattle.disk_model.specs.State.{FileState}
use Rattle.node_image.specs.References.{IsCurrent}
use Rattle.node_image.specs.declared.node.RootRef.{RootRef}
use Rattle.tee_types.specs.Limits.{IsObjectFile, directory_file}
use Rattle.tee_types.proofs.FileNumbers.{directory_on_bench, object_not_directory}
use Rattle.rpmb_card.specs.Card.{CardState}
use Rattle.htree_file.specs.Opening.{Loaded}
use Rattle.store_model.specs.Object.{Object}
use Rattle.dir_records.specs.declared.entry.DirEntry.{DirEntry}
use Rattle.dir_records.specs.Form.{HasForm}
use Rattle.history_seats.specs.Directory.{given_version}
use Rattle.history_seats.specs.Mounts.{Entry}
use Rattle.history_seats.specs.Records.{Version}
use Rattle.history_seats.specs.Settling.{as_landed}
use Rattle.history_seats.specs.Views.{GateView}
use Rattle.crash_core.specs.CoreState.{IsTrusted, Phase}
use Rattle.crash_core.specs.DeviceKeys.{directory_key}
use Rattle.crash_core.specs.EntryLists.{AreDistinct, entry_at}
use Rattle.crash_core.specs.Holding.{DirectoryStands}
use Rattle.crash_core.specs.Mounting.{Held, map_of}
use Rattle.crash_core.specs.Pictures.{IsPictureOf, Picture}
use Rattle.crash_core.specs.Sights.{Shows, Stands}
use Rattle.crash_core.proofs.Doubles.{directory_forms}
use Rattle.crash_core.proofs.MountedPictures.{directory_mounts}
use Rattle.core_laws.specs.GateParts.{DirectoryReads, IsVersionOf, KnowsEntry}
use Rattle.core_laws.specs.Mapped.{Versions, landed_version}
use Rattle.core_laws.specs.Matched.{AreMatched}
use Rattle.core_laws.specs.SlotParts.{Knows, SlotHolds, SlotPart}
use Rattle.core_laws.specs.Stores.{Store, entries_at, entry_named}
use Rattle.core_laws.specs.TamperScenarios.{TamperScenario}
use Rattle.core_laws.specs.Ties.{IsTiedDoubt}
use Rattle.core_laws.proofs.Versions.{entry_is_known, version_shows}
use Rattle.crash_core.specs.declared.change.DoubtedChange.{DoubtedChange}
use Rattle.crash_core.specs.EntryChanges.{changed}
use Rattle.store_commit.specs.EntryForms.{AreEntriesOf}
use Rattle.store_commit.specs.Gates.{IsDoubtOf}
use Rattle.store_commit.specs.Held.{IsDurable}
use Rattle.store_commit.specs.Sides.{IsSettled, Names, Sides}
use Rattle.commit_gate.specs.ClosedStores.{IsTiedStore, MountsGiven, TiedStoresMount, object_given, store_files}
use Rattle.commit_gate.specs.FinishedPhases.{phase_under}
use Rattle.commit_gate.proofs.ClosedStores.{slot_is, store_directory, store_slot}
use Rattle.commit_gate.proofs.HeldDirectories.{held_reads}
use Rattle.commit_gate.proofs.ListedMaps.{entries_back, held, map_has, object_from, of_entry, supposed, supposed_is}
use Rattle.commit_gate.proofs.RestingGates.{card_names, entries_distinct, given_known, landed_known}

-- the object of a version
abbrev own : (file generation : ℕ) → Version → Object
own file generation v = v.object

given_same : (given : Versions) (o : Option Entry) → object_from own given o ≡ object_given given o
given_same given None = refl
given_same given (Some e) = refl

module _ (store : Store) (scenario : TamperScenario) (g : Sides) (doubt : Option DoubtedChange) (holds : List (Option ℕ)) (card : CardState) (view : GateView) (slots : ℕ → SlotPart)
    (t : IsTiedStore store scenario g doubt holds card view slots) (picture : Picture) (is : IsPictureOf (store_files g slots) card picture) (trusted : IsTrusted (phase_under store scenario) directory_file) where
  abbrev phase : Phase
  phase = phase_under store scenario

  abbrev files : ℕ → FileState
  files = store_files g slots

  of_slot : (file : ℕ) → IsObjectFile file → files file ≡ (slots file).file
  of_slot file object = store_slot g slots file (object_not_directory file object.0 object.1) ∙ ap (λ (s : SlotPart). s.file) (slot_is slots file object)

  -- an entry of a file that is honest shows the object of its version
  shows : (e : DirEntry) (v : Version) → IsObjectFile e.file → IsTrusted phase e.file → KnowsEntry view e v → IsVersionOf e v → Shows store.keys (files e.file) e v.object
  shows e v object kept known of =
      let slot : SlotHolds store.keys (slots e.file) = t.slots_hold.holds e.file object in
      let honest : IsTrue (slots e.file).file.honest = subst (λ (s : FileState). IsTrue s.honest) (of_slot e.file object) (t.tampered e.file (omega (arith, object.1)) kept) in
      let knows : Knows (slots e.file).view v = entry_is_known view (slots e.file).view e v (t.slots_hold.fits e.file object) (t.slots_hold.numbered e.file object) known in
      subst (λ (s : FileState). Shows store.keys s e v.object) (sym (of_slot e.file object))
      (version_shows store.keys (slots e.file).file (record { entry = e; object = v.object }) v slot.sound (slot.stands honest v knows) of refl)

  -- a directory that is held reads as its entries
  reads_held : (root : RootRef) (tree : Loaded) (entries : List (Option DirEntry)) → IsCurrent root → (IsTrue g.file.honest → IsDurable g.file g.dir.tsk root tree entries)
      → DirectoryReads store.keys g.file root entries
  reads_held root tree entries current durable =
      let honest : IsTrue g.file.honest = subst (λ (s : FileState). IsTrue s.honest) (store_directory g slots) (t.tampered directory_file directory_on_bench trusted) in
      held_reads store.keys g.file root tree entries t.gate.sound current (subst (λ (key : List ℕ). IsDurable g.file key root tree entries) t.gate.tsk (durable honest))

  -- Entries that match the records, in a directory that the card names.
  module _ (entries : List (Option DirEntry)) (kept : List Entry) (given : Versions) (matched : AreMatched store.keys entries kept given) (are : AreEntriesOf entries)
      (knows : (e : DirEntry) (v : Version) → given e.file e.generation ≡ Some v → KnowsEntry view e v) (dir : RootRef) (reads : DirectoryReads store.keys g.file dir entries)
      (counter : ℕ) (names : Names t.gate.told.own dir counter) where
    distinct : AreDistinct entries
    distinct = entries_distinct entries are

    abbrev all : List (Option Held)
    all = held own entries kept given matched.listed matched.versions distinct

    each_shows : (index : ℕ) (e : DirEntry) → entry_at entries index ≡ Some e → IsTrusted phase e.file
        → Shows store.keys (files e.file) e (supposed own entries kept given matched.listed matched.versions distinct e)
    each_shows index e at kept_honest =
        let v = matched.versions index e at in
        let form : HasForm e = directory_forms entries reads.sight.opened reads.reads index e at in
        subst (Shows store.keys (files e.file) e) (sym (supposed_is own entries kept given matched.listed matched.versions distinct e v.0 v.1))
        (shows e v.0 form.file kept_honest (knows e v.0 v.1) v.2)

    stands : DirectoryStands phase files dir entries (map_of all)
    stands = record {
      sight = reads.sight;
      own = subst (λ (s : FileState). Stands s (directory_key store.keys) dir reads.sight) (sym (store_directory g slots)) reads.stands;
      reads = reads.reads;
      held = all;
      holds = entries_back own entries kept given matched.listed matched.versions distinct;
      each = λ index x at kept_honest.
          let e = of_entry own entries kept given matched.listed matched.versions distinct index x at in
          subst (λ (y : Held). Shows store.keys (files y.entry.file) y.entry y.object) e.2
          (each_shows index e.0 e.1 (subst (λ (y : Held). IsTrusted phase y.entry.file) (sym e.2) kept_honest));
      map_is = refl;
    }

    mounts_given : MountsGiven phase picture given kept
    mounts_given = record {
      objects = map_of all;
      given = λ name. map_has own entries kept given matched.listed matched.versions distinct name ∙ given_same given (entry_named name kept);
      mounts = directory_mounts phase files card picture is dir entries (map_of all) counter (card_names g card t.gate.told dir counter names) stands;
    }

  -- The committed directory.
  mounts_now : IsCurrent g.dir.root → AreEntriesOf g.dir.entries → (IsTrue g.file.honest → IsDurable g.file g.dir.tsk g.dir.root g.dir.tree g.dir.entries)
      → Names t.gate.told.own g.dir.root g.counter → MountsGiven phase picture (given_version store.mounted view.all) (entries_at store view.all).now
  mounts_now current are durable names =
      mounts_given g.dir.entries (entries_at store view.all).now (given_version store.mounted view.all)
      (record { listed = t.tied.listed; unique = t.tied.unique; versions = t.tied.versions; real = t.tied.real }) are (given_known store scenario g view t.mounted)
      g.dir.root (reads_held g.dir.root g.dir.tree g.dir.entries current durable) g.counter names

  -- The directory of the commit in doubt.
  mounts_landed : (d : DoubtedChange) (of : IsDoubtOf g d) → IsTiedDoubt store view g.dir.entries d → Names t.gate.told.own of.next.root (g.counter + 1)
      → MountsGiven phase picture (landed_version store.mounted view.all) (as_landed (entries_at store view.all)).now
  mounts_landed d of tied names =
      let reads : DirectoryReads store.keys g.file of.next.root of.next.entries = reads_held of.next.root of.next.tree of.next.entries (of.stands.next_form.version, of.stands.same_format ∙ t.gate.current) of.stands.next_held in
      mounts_given (changed g.dir.entries d.change) (as_landed (entries_at store view.all)).now (landed_version store.mounted view.all) tied.landed
      (subst AreEntriesOf of.entries of.stands.next_entries) (landed_known store scenario g view t.mounted d.number tied.is_open)
      of.next.root (subst (λ (l : List (Option DirEntry)). DirectoryReads store.keys g.file of.next.root l) of.entries reads) (g.counter + 1) names

pub tied_stores_mount : TiedStoresMount
tied_stores_mount store scenario g None holds card view slots picture t is trusted =
    let settled : IsSettled g = t.gate.stands in
    mounts_now store scenario g None holds card view slots t picture is trusted (settled.form.version, t.gate.current) settled.entries settled.held (settled.named t.gate.told.own t.gate.told.has)
tied_stores_mount store scenario g (Some d) holds card view slots picture t is trusted =
    let of : IsDoubtOf g d = t.gate.stands in
    elim (of.stands.named t.gate.told.own t.gate.told.has) [
      | inl old ↦ inl (mounts_now store scenario g (Some d) holds card view slots t picture is trusted (of.stands.form.version, t.gate.current) of.stands.entries of.stands.held old)
      | inr new ↦ inr (mounts_landed store scenario g (Some d) holds card view slots t picture is trusted d of t.tied.doubt new)
    ]
