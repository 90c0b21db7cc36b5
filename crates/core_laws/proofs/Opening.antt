-- The ties hold before the first event.
use Rattle.std.proofs.Common.{◌≡◌, ◌==◌, ℕ, Bool, true, false, true≢false, ◌&&◌, cond, List, [], ◌∷◌, ◌++◌, map, find, Option, Some, None, option_map, inl, inr, refl, sym, ap, ◌∙◌, subst, is_eq, eq-eqb}
use Rattle.std.specs.Prelude.{Contains}
use Rattle.std.proofs.lemmas.Bool.{cases_Bool, cases_eq, cond-true, cond-false, eqb-true, and_parts}
use Rattle.disk_model.specs.State.{FileState}
use Rattle.store_model.specs.declared.name.ObjectName.{ObjectName}
use Rattle.store_model.specs.Name.{name_cmp}
use Rattle.store_model.proofs.Maps.{at}
use Rattle.dir_records.specs.declared.entry.DirEntry.{DirEntry}
use Rattle.history_seats.specs.Records.{HistoryRecord, Version}
use Rattle.history_seats.specs.Mounts.{Entry, MountedEntry}
use Rattle.history_seats.specs.Settling.{IsOpenDoubt}
use Rattle.history_seats.specs.Views.{GateView}
use Rattle.history_seats.specs.Versions.{is_entry_of, version_among}
use Rattle.history_seats.specs.Directory.{directory_of, given_version, has_entry}
use Rattle.crash_core.specs.Entries.{name_of}
use Rattle.crash_core.specs.EntryLists.{entry_at}
use Rattle.core_laws.specs.GateParts.{IsVersionOf}
use Rattle.core_laws.specs.Listed.{AreListed, history_entry}
use Rattle.core_laws.specs.Opened.{HasMounted, IsMountOf}
use Rattle.core_laws.proofs.Contained.{contains_cases, contains_first, contains_later, contains_mapped, contains_none, mapped_contains}
use Rattle.core_laws.specs.Decodings.{IsReal}
use Rattle.core_laws.specs.Stores.{Store, entry_named, replay_at}
use Rattle.core_laws.specs.EntryLaws.{AreUnique}
use Rattle.core_laws.specs.MapLaws.{AreMountedApart}
use Rattle.core_laws.specs.Listings.{HaveListedVersions}
use Rattle.core_laws.proofs.Mending.{none_some, some_same}
use Rattle.core_laws.proofs.Places.{not_empty}
use Rattle.core_laws.specs.Matched.{AreReal}
use Rattle.core_laws.specs.TieLaws.{OpeningsAreTied}
use Rattle.core_laws.proofs.Rising.{replay_state-rises}
use Rattle.core_laws.proofs.Matching.{contains_has}

-- an entry has its own file and generation
own_entry : (x : Entry) → is_entry_of x.file x.generation x ≡ true
own_entry x = ap (λ (b : Bool). b && (x.generation == x.generation)) (eq-eqb x.file x.file refl) ∙ eq-eqb x.generation x.generation refl

-- a version that is found is that of an entry
version_from : (file generation : ℕ) (entries : List MountedEntry) (v : Version) → version_among file generation entries ≡ Some v
    → (m : MountedEntry) × Contains entries m × (is_entry_of file generation m.entry ≡ true) × (m.version ≡ v)
version_from file generation [] v is = absurd (none_some v is)
version_from file generation (e ∷ entries) v is = elim (cases_Bool (is_entry_of file generation e.entry)) [
  | inl own ↦ (
    e,
    contains_first e e entries refl,
    own,
    some_same e.version v (sym (cond-true (is_entry_of file generation e.entry) (Some e.version) (version_among file generation entries) own) ∙ is),
  )
  | inr other ↦
      let rest = version_from file generation entries v (sym (cond-false (is_entry_of file generation e.entry) (Some e.version) (version_among file generation entries) other) ∙ is) in
      (rest.0, contains_later e rest.0 entries rest.1, rest.2, rest.3)
]

-- an entry that is there is found
version_there : (file generation : ℕ) (entries : List MountedEntry) (m : MountedEntry) → Contains entries m → is_entry_of file generation m.entry ≡ true
    → (v : Version) × (version_among file generation entries ≡ Some v)
version_there file generation [] m there own = absurd (contains_none m there)
version_there file generation (e ∷ entries) m there own = elim (cases_Bool (is_entry_of file generation e.entry)) [
  | inl here ↦ (e.version, cond-true (is_entry_of file generation e.entry) (Some e.version) (version_among file generation entries) here)
  | inr other ↦ elim (contains_cases e m entries there) [
    | inl is ↦ absurd (true≢false (sym own ∙ ap (λ (x : MountedEntry). is_entry_of file generation x.entry) (sym is) ∙ other))
    | inr more ↦
        let rest = version_there file generation entries m more own in
        (rest.0, cond-false (is_entry_of file generation e.entry) (Some e.version) (version_among file generation entries) other ∙ rest.1)
  ]
]

-- what is found passes the test, and is there
found_there : (name : ObjectName) (xs : List MountedEntry) (m : MountedEntry) → find (λ y. is_eq (name_cmp name y.entry.name)) xs ≡ Some m
    → Contains xs m × (at name m.entry.name ≡ true)
found_there name [] m is = absurd (none_some m is)
found_there name (x ∷ xs) m is = by_test (found_there name xs m) (at name x.entry.name) refl is
  where
    by_test : (find (λ y. is_eq (name_cmp name y.entry.name)) xs ≡ Some m → Contains xs m × (at name m.entry.name ≡ true)) → (b : Bool) → at name x.entry.name ≡ b
        → cond b (Some x) (find (λ y. is_eq (name_cmp name y.entry.name)) xs) ≡ Some m → Contains (x ∷ xs) m × (at name m.entry.name ≡ true)
    by_test later true tied same =
        let one : x ≡ m = some_same x m same in
        (contains_first x m xs one, ap (λ (y : MountedEntry). at name y.entry.name) (sym one) ∙ tied)
    by_test later false apart same = let rest = later same in (contains_later x m xs rest.0, rest.1)

-- the entries that the mount named, by name
named_mounted : (name : ObjectName) (xs : List MountedEntry)
    → entry_named name (map (λ e. e.entry) xs) ≡ option_map (λ e. e.entry) (find (λ y. is_eq (name_cmp name y.entry.name)) xs)
named_mounted name [] = refl
named_mounted name (x ∷ xs) = by_test (named_mounted name xs) (at name x.entry.name)
  where
    by_test : entry_named name (map (λ e. e.entry) xs) ≡ option_map (λ e. e.entry) (find (λ y. is_eq (name_cmp name y.entry.name)) xs)
        → (b : Bool) → cond b (Some x.entry) (entry_named name (map (λ e. e.entry) xs)) ≡ option_map (λ e. e.entry) (cond b (Some x) (find (λ y. is_eq (name_cmp name y.entry.name)) xs))
    by_test later true = refl
    by_test later false = later

module _ (store : Store) (files : ℕ → FileState) (entries : List (Option DirEntry)) (o : IsMountOf store.keys files entries store.mounted) where
  abbrev told : List MountedEntry
  told = store.mounted.entries

  abbrev names : List Entry
  names = map (λ e. e.entry) told

  -- a mounted entry of an entry's file tells of it
  version_own : (m : MountedEntry) → Contains told m → (index : ℕ) (e : DirEntry) → entry_at entries index ≡ Some e → is_entry_of e.file e.generation m.entry ≡ true → IsVersionOf e m.version
  version_own m there index e at own =
      let h : HasMounted store.keys files entries m = o.back m there in
      let file : h.entry.file ≡ e.file = ap (λ (x : Entry). x.file) h.told.entry ∙ eqb-true m.entry.file e.file (and_parts (m.entry.file == e.file) (m.entry.generation == e.generation) own).0 in
      let place : h.index ≡ index = o.forms.single h.index index h.entry e h.at at file in
      let same : h.entry ≡ e = some_same h.entry e (sym h.at ∙ ap (entry_at entries) place ∙ at) in
      subst (λ (x : DirEntry). IsVersionOf x m.version) same h.told.version

  listed_first : AreListed entries names
  listed_first = record {
    each = λ index e at. let m = o.each index e at in subst (Contains names) (sym m.2) (contains_mapped (λ (y : MountedEntry). y.entry) told m.0 m.1);
    back = λ x there.
        let from = mapped_contains (λ (y : MountedEntry). y.entry) told x there in
        let h : HasMounted store.keys files entries from.0 = o.back from.0 from.1 in
        record { index = h.index; entry = h.entry; at = h.at; is = h.told.entry ∙ from.2 };
  }

  versions_first : HaveListedVersions entries (given_version store.mounted [])
  versions_first index e at =
      let m = o.each index e at in
      let own : is_entry_of e.file e.generation m.0.entry ≡ true = subst (λ (x : Entry). is_entry_of e.file e.generation x ≡ true) m.2 (own_entry (history_entry e)) in
      let there = version_there e.file e.generation told m.0 m.1 own in
      let from = version_from e.file e.generation told there.0 there.1 in
      let has : has_entry e.file e.generation names ≡ true = contains_has names (history_entry e) (listed_first.each index e at) in (
        there.0,
        cond-true (has_entry e.file e.generation names) (version_among e.file e.generation told) None has ∙ there.1,
        subst (IsVersionOf e) from.3 (version_own from.0 from.1 index e at from.2),
      )

  real_first : ((m : MountedEntry) → Contains told m → IsReal store.keys m.version) → AreReal store.keys entries (given_version store.mounted [])
  real_first real index e v at is = elim (cases_Bool has) [
    | inl there ↦
        let from = version_from e.file e.generation told v (sym (cond-true has (version_among e.file e.generation told) None there) ∙ is) in
        subst (IsReal store.keys) from.3 (real from.0 from.1)
    | inr none ↦ absurd (none_some v (sym (cond-false has (version_among e.file e.generation told) None none) ∙ is))
  ]
    where
      has : Bool
      has = has_entry e.file e.generation names

  -- no two of one name
  unique_from : (xs : List MountedEntry) → ((m : MountedEntry) → Contains xs m → Contains told m) → AreMountedApart xs → AreUnique (map (λ e. e.entry) xs)
  unique_from [] within apart = tt
  unique_from (x ∷ xs) within apart =
      (named_mounted x.entry.name xs ∙ ap (option_map (λ (e : MountedEntry). e.entry)) (none_found (find (λ (y : MountedEntry). is_eq (name_cmp x.entry.name y.entry.name)) xs) refl), unique_from xs (λ m there. within m (contains_later x m xs there)) apart.1)
    where
      none_found : (f : Option MountedEntry) → find (λ (y : MountedEntry). is_eq (name_cmp x.entry.name y.entry.name)) xs ≡ f → find (λ (y : MountedEntry). is_eq (name_cmp x.entry.name y.entry.name)) xs ≡ None
      none_found None is = is
      none_found (Some m) is =
          let found = found_there x.entry.name xs m is in
          let hx : HasMounted store.keys files entries x = o.back x (within x (contains_first x x xs refl)) in
          let hm : HasMounted store.keys files entries m = o.back m (within m (contains_later x m xs found.0)) in
          elim (cases_eq hm.index hx.index) [
            | inl place ↦
                let same : hm.entry ≡ hx.entry = some_same hm.entry hx.entry (sym hm.at ∙ ap (entry_at entries) place ∙ hx.at) in
                let one : m.entry ≡ x.entry = sym hm.told.entry ∙ ap history_entry same ∙ hx.told.entry in
                absurd (true≢false (sym (own_entry m.entry) ∙ ap (is_entry_of m.entry.file m.entry.generation) one ∙ apart.0 x.entry.name m is))
            | inr other ↦
                let unlike : at (name_of hx.entry) (name_of hm.entry) ≡ false = o.forms.distinct hx.index hx.entry hx.at hm.index hm.entry other hm.at in
                let tied : at (name_of hx.entry) (name_of hm.entry) ≡ true = (λ i. at (hx.told.entry i).name (hm.told.entry i).name) ∙ found.1 in
                absurd (true≢false (sym tied ∙ unlike))
          ]

none_open : (view : GateView) → view.all ≡ [] → (number : ℕ) → IsOpenDoubt number view.decided view.all → ⊥
none_open view is number open_ = one open_.front (open_.is ∙ is)
  where
    one : (front : List HistoryRecord) → front ++ open_.doubted ∷ open_.back ≡ [] → ⊥
    one [] e = not_empty open_.doubted open_.back e
    one (f ∷ front) e = not_empty f (front ++ open_.doubted ∷ open_.back) e

pub openings_tied : OpeningsAreTied
openings_tied store view files entries is o apart real rising =
    let none : [] ≡ view.all = sym is in
    record {
      listed = subst (λ (l : List HistoryRecord). AreListed entries (directory_of store.mounted l).now) none (listed_first store files entries o);
      unique = subst (λ (l : List HistoryRecord). AreUnique (directory_of store.mounted l).now) none (unique_from store files entries o store.mounted.entries (λ m there. there) apart);
      versions = subst (λ (l : List HistoryRecord). HaveListedVersions entries (given_version store.mounted l)) none (versions_first store files entries o);
      real = subst (λ (l : List HistoryRecord). AreReal store.keys entries (given_version store.mounted l)) none (real_first store files entries o real);
      counter = λ scenario answered. ap (λ (l : List HistoryRecord). (replay_at store scenario l).counter) is;
      rising = λ scenario answered. replay_state-rises store scenario view.all rising;
      doubt = none_open view is;
    }
