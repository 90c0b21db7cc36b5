-- What a closed bench held, in the place of damage of the phase behind it.
use Rattle.std.proofs.Common.{◌≡◌, ◌⊎◌, inl, inr, ℕ, zero, suc, true, List, [], ◌∷◌, map, find, Option, Some, None, option_map, is_eq, refl, sym, ap, subst, ◌∙◌, arith}
use Rattle.std.proofs.lemmas.Bool.{cases_Bool, cond-false, cond-true}
use Rattle.disk_model.specs.State.{FileState, Sound}
use Rattle.hmac_keys.specs.declared.Keys.{Keys}
use Rattle.rpmb_card.specs.Card.{CardState}
use Rattle.rpmb_card.specs.Port.{PortState}
use Rattle.store_model.specs.declared.event.Event.{Event}
use Rattle.store_model.specs.declared.name.ObjectName.{ObjectName}
use Rattle.store_model.specs.Name.{name_cmp}
use Rattle.store_model.specs.Object.{Object, ObjectMap, object_at}
use Rattle.store_model.proofs.Maps.{at}
use Rattle.store_model.proofs.MapLaws.{alike}
use Rattle.dir_records.specs.declared.entry.DirEntry.{DirEntry}
use Rattle.dir_file.specs.EntryForms.{AreEntriesOf}
use Rattle.crash_core.specs.Entries.{first_double, name_of}
use Rattle.crash_core.specs.EntryLists.{AreSingle, IsAlone, entry_at}
use Rattle.crash_core.specs.MountedObject.{root_of}
use Rattle.crash_core.specs.Opening.{opening_map, reads_of}
use Rattle.crash_core.specs.Pictures.{block_zero}
use Rattle.crash_core.proofs.Doubles.{files_single}
use Rattle.history_seats.specs.Mounts.{MountedEntry}
use Rattle.history_seats.specs.Numbers.{is_in}
use Rattle.core_laws.specs.Decodings.{IsReal}
use Rattle.core_laws.specs.Stores.{Store, mounted_named, object_for, objects_under}
use Rattle.core_laws.specs.TamperScenarios.{TamperScenario, object_under}
use Rattle.core_laws.proofs.Images.{image_real}
use Rattle.core_laws.proofs.Mending.{none_some, some_same}
use Rattle.commit_gate.specs.ClosedStores.{tampered_in}
use Rattle.script_text.specs.declared.script.Arm.{Arm}
use Rattle.script_text.specs.declared.script.Mode.{Mode}
use Rattle.script_text.specs.declared.script.Step.{Step}
use Rattle.object_calls.specs.MountedEntries.{mounted_entries, mounted_entry, version_in}
use Rattle.object_calls.specs.Opening.{OpeningValue, bench_files, entries_in}
use Rattle.object_calls.proofs.EntriesOf.{distinct_names}
use Rattle.object_calls.proofs.Files.{numbered_sound}
use Rattle.object_calls.proofs.OpeningMaps.{object_at-opening}
use Rattle.run_acts.specs.Benches.{BenchState}
use Rattle.run_acts.specs.Between.{AreSound}
use Rattle.run_acts.specs.Phases.{RunsPhase}
use Rattle.run_acts.specs.declared.refused_call.RefusedCall.{RefusedCall}
use Rattle.app_quota.specs.declared.quotas.Quota.{Quota}
use Rattle.freshness_laws.specs.Pictures.{HoldsStore}
use Rattle.freshness_laws.specs.SeenStores.{map_seen}
use Rattle.freshness_laws.specs.Takings.{TakesStore}
use Rattle.freshness_laws.proofs.Pictures.{mounts_by}
use Rattle.freshness_laws.proofs.Stores.{directories_or}
use Rattle.freshness_laws.proofs.Takings.{stores_taken, taken_mend}
use Rattle.run_freshness.specs.Laws.{KeepsCard}
use Rattle.run_freshness.specs.Seen.{picture_read}
use Rattle.run_freshness.specs.Taken.{BeginsBeside, BeginsMended, BeginsTaken, OpeningClash, PhasesBeginBeside}
use Rattle.run_freshness.proofs.Mounts.{closed_holds, mount_sees, moved}

-- a value that is found, in a map whose values are changed by their keys, where tied keys change alike
found_changed : (change : ObjectName → Object → Object) (name : ObjectName) → ((other : ObjectName) → at name other ≡ true → change other ≡ change name) → (objects : ObjectMap) (object : Object)
    → object_at objects name ≡ Some object → object_at (map (λ x. (x.0, change x.0 x.1)) objects) name ≡ Some (change name object)
found_changed change name tied [] object is = absurd (none_some object is)
found_changed change name tied (x ∷ objects) object is = elim (cases_Bool (at name x.0)) [
  | inl hit ↦
      let same : x.1 ≡ object = some_same x.1 object (sym (cond-true (at name x.0) (Some x.1) (object_at objects name) hit) ∙ is) in
      cond-true (at name x.0) (Some (change x.0 x.1)) (object_at (map (λ y. (y.0, change y.0 y.1)) objects) name) hit
      ∙ (λ i. Some (tied x.0 hit i (same i)))
  | inr miss ↦
      cond-false (at name x.0) (Some (change x.0 x.1)) (object_at (map (λ y. (y.0, change y.0 y.1)) objects) name) miss
      ∙ found_changed change name tied objects object (sym (cond-false (at name x.0) (Some x.1) (object_at objects name) miss) ∙ is)
]

-- the mount tells of an entry under its name
entry_found : (keys : Keys) (files : ℕ → FileState) (entries : List (Option DirEntry)) (index : ℕ) (e : DirEntry) → IsAlone entries index (name_of e) → entry_at entries index ≡ Some e
    → find (λ (m : MountedEntry). is_eq (name_cmp (name_of e) m.entry.name)) (mounted_entries keys files entries) ≡ Some (mounted_entry keys files e)
entry_found keys files [] index e alone there = absurd (none_some e there)
entry_found keys files (None ∷ entries) zero e alone there = absurd (none_some e there)
entry_found keys files (None ∷ entries) (suc index) e alone there =
    entry_found keys files entries index e (λ other f ne is. alone (suc other) f (λ same. ne (let s : suc other ≡ suc index = same in omega (arith, s))) is) there
entry_found keys files (Some x ∷ entries) zero e alone there =
    let same : x ≡ e = some_same x e there in
    cond-true (at (name_of e) (name_of x)) (Some (mounted_entry keys files x)) (find (λ (m : MountedEntry). is_eq (name_cmp (name_of e) m.entry.name)) (mounted_entries keys files entries))
    (ap (λ (y : DirEntry). at (name_of e) (name_of y)) same ∙ alike.refl (name_of e))
    ∙ ap (λ (y : DirEntry). Some (mounted_entry keys files y)) same
entry_found keys files (Some x ∷ entries) (suc index) e alone there =
    cond-false (at (name_of e) (name_of x)) (Some (mounted_entry keys files x)) (find (λ (m : MountedEntry). is_eq (name_cmp (name_of e) m.entry.name)) (mounted_entries keys files entries))
    (alone 0 x (λ same. let s : 0 ≡ suc index = same in omega (arith, s)) refl)
    ∙ entry_found keys files entries index e (λ other f ne is. alone (suc other) f (λ same. ne (let s : suc other ≡ suc index = same in omega (arith, s))) is) there

single_files : (entries : List (Option DirEntry)) → AreEntriesOf entries → AreSingle entries
single_files entries are = files_single entries (ap (λ (n : ℕ). first_double entries 0 n) are.whole ∙ are.apart)

module _ {F R : Type 0} (of_file : F → FileState) (of_port : R → PortState) (all_sound : (file : F) → Sound (of_file file)) (Reliable : Type 0) (keys : Keys) (applications : List (List ℕ)) (quotas : List Quota)
    (arms : List Arm) (mode : Mode) (calls : List Step) (old new : BenchState) (opening : ObjectMap) (events : List Event) (refused : List RefusedCall)
    (p : RunsPhase of_file of_port Reliable keys applications quotas arms mode calls old new opening events refused) where
  abbrev store : Store
  store = (p.serves).store

  abbrev armed : OpeningValue F R
  armed = (p.serves).armed

  abbrev files : ℕ → FileState
  files = bench_files of_file armed

  abbrev entries : List (Option DirEntry)
  entries = entries_in p.opened

  are : AreEntriesOf entries
  are = (((p.mounts).gate).settled).entries

  keys_are : store.keys ≡ keys
  keys_are = (p.serves).keys_are

  entries_are : entries_in armed ≡ entries
  entries_are = ap (λ (o : OpeningValue F R). entries_in o) ((p.serves).ready).others

  mounted_are : (store.mounted).entries ≡ mounted_entries keys files entries
  mounted_are = ap (λ (s : Store). (s.mounted).entries) ((p.serves).is_store).is ∙ (λ i. mounted_entries (keys_are i) files (entries_are i))

  objects_are : store.objects ≡ opening_map keys files entries
  objects_are = ap (λ (s : Store). s.objects) ((p.serves).is_store).is ∙ (λ i. opening_map (keys_are i) files (entries_are i))

  module _ (scenario : TamperScenario) (index : ℕ) (e : DirEntry) (there : entry_at entries index ≡ Some e) where
    found : find (λ (m : MountedEntry). is_eq (name_cmp (name_of e) m.entry.name)) (mounted_entries keys files entries) ≡ Some (mounted_entry keys files e)
    found = entry_found keys files entries index e (distinct_names entries are index e there) there

    named : mounted_named (name_of e) store.mounted ≡ Some (mounted_entry keys files e)
    named = ap (λ (l : List MountedEntry). find (λ (m : MountedEntry). is_eq (name_cmp (name_of e) m.entry.name)) l) mounted_are ∙ found

    held : object_at store.objects (name_of e) ≡ Some (version_in keys files e).object
    held =
        ap (λ (m : ObjectMap). object_at m (name_of e)) objects_are ∙ object_at-opening keys files entries (name_of e)
        ∙ ap (option_map (λ (m : MountedEntry). m.version.object)) found

    -- the object that the phase begins with
    begins : object_at (objects_under store scenario) (name_of e) ≡ Some (object_under keys scenario e.file e.generation (version_in keys files e))
    begins =
        found_changed (λ n object. object_for store.keys scenario (mounted_named n store.mounted) object) (name_of e)
        (λ other tied. λ i object. object_for store.keys scenario (find (λ (x : MountedEntry). sym (alike.congr (name_of e) other x.entry.name tied) i) (store.mounted).entries) object)
        store.objects (version_in keys files e).object held
        ∙ (λ i. Some (object_for (keys_are i) scenario (named i) (version_in keys files e).object))

    real : IsReal keys (version_in keys files e)
    real = image_real keys (files e.file).reads (root_of e) e.app e.size e.attributes (numbered_sound of_file all_sound armed.spare armed.gate.dir.file armed.files e.file).reads

  module _ (closed : BenchState) (card : CardState) (objects : ObjectMap) (held_entries : List (Option DirEntry)) (x : HoldsStore keys (block_zero card) (reads_of closed.files) held_entries)
      (are_objects : objects ≡ map_seen x.seen) (same : entries ≡ (x.seen).entries) where
    abbrev tampered : List ℕ
    tampered = tampered_in (p.closed).files

    taken_by : (scenario : TamperScenario) → TakesStore scenario tampered x.seen → BeginsTaken of_file of_port Reliable closed card objects p
    taken_by scenario takes = record {
      before = record { seen = x.seen; held = x.held };
      objects_are = are_objects;
      scenario = scenario;
      takes = takes;
      answered = ((((p.serves).closes).leaves).altered).answered scenario takes.dishonest_are;
      mends = mend;
    }
      where
        mend : (index : ℕ) (e : DirEntry) → entry_at (x.seen).entries index ≡ Some e → is_in e.file tampered ≡ true
            → BeginsMended x.seen e store scenario ⊎ OpeningClash x.seen e files
        mend index e there among =
            let here : entry_at entries index ≡ Some e = ap (λ (l : List (Option DirEntry)). entry_at l index) same ∙ there in
            elim (taken_mend keys (block_zero card) tampered x.seen scenario takes (files e.file).reads index e there among (real scenario index e here)) [
              | inl less ↦ inl (record { object = object_under keys scenario e.file e.generation (version_in keys files e); begins = begins scenario index e here; less = less })
              | inr clash ↦ inr (record { read = clash.0; is_read = clash.1; clash = clash.2 })
            ]

    taken : BeginsTaken of_file of_port Reliable closed card objects p
    taken = let t = stores_taken keys (block_zero card) tampered x.seen (subst AreSingle same (single_files entries are)) in taken_by t.0 t.1

  pub begins_beside : (closed : BenchState) → AreSound closed.files → KeepsCard closed old → BeginsBeside of_file of_port Reliable closed p
  begins_beside closed sound keeps card objects has is =
      let a = mounts_by keys (picture_read closed card) objects is in
      let x = closed_holds of_file of_port all_sound keys closed sound card a.entries a.directory in
      let y = mount_sees of_file of_port all_sound keys old p.opened p.mounts card (moved of_file of_port all_sound keys closed old card has keeps) in
      elim (directories_or keys (block_zero card) x.seen y.seen) [
        | inr clash ↦ inr (record { before = record { seen = x.seen; held = x.held }; sees = y; clash = clash })
        | inl same ↦ inl (taken closed card objects a.entries x (sym a.objects_are ∙ x.objects_are) (sym y.entries ∙ same))
      ]

pub phases_begin_beside : {F R : Type 0} (of_file : F → FileState) (of_port : R → PortState) (Reliable : Type 0) → ((file : F) → Sound (of_file file)) → PhasesBeginBeside of_file of_port Reliable
phases_begin_beside of_file of_port Reliable all_sound keys applications quotas arms mode calls closed old new opening events refused sound keeps p =
    begins_beside of_file of_port all_sound Reliable keys applications quotas arms mode calls old new opening events refused p closed sound keeps
