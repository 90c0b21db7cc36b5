-- The entries that a directory lists, and the versions that a mount tells of them.
use Rattle.std.proofs.Common.{◌≡◌, ◌≢◌, ◌==◌, ◌&&◌, ℕ, zero, suc, Bool, true, false, cond, List, [], ◌∷◌, find, Option, Some, None, inl, inr, refl, sym, ap, ◌∙◌, arith}
use Rattle.std.specs.Prelude.{Contains}
use Rattle.std.proofs.lemmas.Bool.{cases_Bool, cond-true, cond-false, and_parts, eqb-true, ne_eqb, eq-eqb}
use Rattle.disk_model.specs.State.{FileState}
use Rattle.hmac_keys.specs.declared.Keys.{Keys}
use Rattle.dir_records.specs.declared.entry.DirEntry.{DirEntry}
use Rattle.history_seats.specs.Records.{Version}
use Rattle.history_seats.specs.Mounts.{MountedEntry}
use Rattle.history_seats.specs.Versions.{is_entry_of, version_among}
use Rattle.crash_core.specs.EntryLists.{AreSingle, entry_at}
use Rattle.core_laws.proofs.Contained.{contains_cases, contains_first, contains_later, contains_none, mapped_contains}
use Rattle.core_laws.proofs.Mending.{none_some, some_same}
use Rattle.object_calls.specs.Generations.{generation_in}
use Rattle.object_calls.specs.MountedEntries.{listed, mounted_entries, mounted_entry, version_in}

pub single_rest : (x : Option DirEntry) (entries : List (Option DirEntry)) → AreSingle (x ∷ entries) → AreSingle entries
single_rest x entries single a b e f at there same = let s : suc a ≡ suc b = single (suc a) (suc b) e f at there same in omega (arith, s)

-- an entry that stands at a place is listed,
pub listed_at : (entries : List (Option DirEntry)) (index : ℕ) (e : DirEntry) → entry_at entries index ≡ Some e → Contains (listed entries) e
listed_at [] index e at = absurd (none_some e at)
listed_at (None ∷ entries) zero e at = absurd (none_some e at)
listed_at (None ∷ entries) (suc index) e at = listed_at entries index e at
listed_at (Some x ∷ entries) zero e at = contains_first x e (listed entries) (some_same x e at)
listed_at (Some x ∷ entries) (suc index) e at = contains_later x e (listed entries) (listed_at entries index e at)

-- and one that is listed stands at one
pub at_listed : (entries : List (Option DirEntry)) (e : DirEntry) → Contains (listed entries) e → (index : ℕ) × (entry_at entries index ≡ Some e)
at_listed [] e there = absurd (contains_none e there)
at_listed (None ∷ entries) e there = let rest = at_listed entries e there in (suc rest.0, rest.1)
at_listed (Some x ∷ entries) e there = elim (contains_cases x e (listed entries) there) [
  | inl here ↦ (0, ap (λ (y : DirEntry). Some y) here)
  | inr later ↦ let rest = at_listed entries e later in (suc rest.0, rest.1)
]

-- an entry that is found is there
pub found_there : {X : Type 0} (test : X → Bool) (xs : List X) (x : X) → find test xs ≡ Some x → Contains xs x
found_there test [] x is = absurd (none_some x is)
found_there test (y ∷ xs) x is = elim (cases_Bool (test y)) [
  | inl own ↦ contains_first y x xs (some_same y x (sym (cond-true (test y) (Some y) (find test xs) own) ∙ is))
  | inr off ↦ contains_later y x xs (found_there test xs x (sym (cond-false (test y) (Some y) (find test xs) off) ∙ is))
]

module _ (keys : Keys) (files : ℕ → FileState) where
  -- the entry that the mount tells of
  pub record IsTold (entries : List (Option DirEntry)) (m : MountedEntry) : Type 0 where
    pub index : ℕ
    pub entry : DirEntry
    pub at : entry_at entries index ≡ Some entry
    pub is : mounted_entry keys files entry ≡ m

  pub told_of : (entries : List (Option DirEntry)) (m : MountedEntry) → Contains (mounted_entries keys files entries) m → IsTold entries m
  told_of entries m there =
      let from = mapped_contains (mounted_entry keys files) (listed entries) m there in
      let place = at_listed entries from.0 from.1 in
      record { index = place.0; entry = from.0; at = place.1; is = from.2 }

  -- no entry of the mount has the file of a later one
  pub other_file : (x : DirEntry) (entries : List (Option DirEntry)) (m : MountedEntry) → AreSingle (Some x ∷ entries) → Contains (mounted_entries keys files entries) m
      → is_entry_of m.entry.file m.entry.generation (mounted_entry keys files x).entry ≡ false
  other_file x entries m single there =
      let told = told_of entries m there in
      let apart : x.file ≢ told.entry.file = λ same. let s : 0 ≡ suc told.index = single 0 (suc told.index) x told.entry refl told.at same in absurd (omega (arith, s)) in
      let off : (x.file == told.entry.file) ≡ false = ne_eqb x.file told.entry.file apart in
      ap (λ (n : MountedEntry). (x.file == n.entry.file) && (x.generation == n.entry.generation)) (sym told.is)
      ∙ ap (λ (b : Bool). b && (x.generation == told.entry.generation)) off

  -- a version that is found is that of an entry
  pub record IsAmong (entries : List (Option DirEntry)) (file generation : ℕ) (v : Version) : Type 0 where
    pub index : ℕ
    pub entry : DirEntry
    pub at : entry_at entries index ≡ Some entry
    pub file_is : entry.file ≡ file
    pub generation_is : entry.generation ≡ generation
    pub version_is : version_in keys files entry ≡ v

  pub version_told : (entries : List (Option DirEntry)) (file generation : ℕ) (v : Version) → version_among file generation (mounted_entries keys files entries) ≡ Some v
      → IsAmong entries file generation v
  version_told [] file generation v is = absurd (none_some v is)
  version_told (None ∷ entries) file generation v is = later (version_told entries file generation v is)
    where
      later : IsAmong entries file generation v → IsAmong (None ∷ entries) file generation v
      later a = record { index = suc a.index; entry = a.entry; at = a.at; file_is = a.file_is; generation_is = a.generation_is; version_is = a.version_is }
  version_told (Some x ∷ entries) file generation v is = by_test (version_told entries file generation v) (is_entry_of file generation (mounted_entry keys files x).entry) refl is
    where
      by_test : (version_among file generation (mounted_entries keys files entries) ≡ Some v → IsAmong entries file generation v) → (b : Bool)
          → is_entry_of file generation (mounted_entry keys files x).entry ≡ b
          → cond b (Some (version_in keys files x)) (version_among file generation (mounted_entries keys files entries)) ≡ Some v → IsAmong (Some x ∷ entries) file generation v
      by_test again true own found =
          let parts = and_parts (x.file == file) (x.generation == generation) own in
          record {
            index = 0;
            entry = x;
            at = refl;
            file_is = eqb-true x.file file parts.0;
            generation_is = eqb-true x.generation generation parts.1;
            version_is = some_same (version_in keys files x) v found;
          }
      by_test again false off found =
          let a = again found in
          record { index = suc a.index; entry = a.entry; at = a.at; file_is = a.file_is; generation_is = a.generation_is; version_is = a.version_is }

-- the generation of an entry's file is the entry's
pub generation-entry : (entries : List (Option DirEntry)) (index : ℕ) (e : DirEntry) → AreSingle entries → entry_at entries index ≡ Some e → generation_in entries e.file ≡ e.generation
generation-entry [] index e single at = absurd (none_some e at)
generation-entry (None ∷ entries) zero e single at = absurd (none_some e at)
generation-entry (None ∷ entries) (suc index) e single at = generation-entry entries index e (single_rest None entries single) at
generation-entry (Some x ∷ entries) zero e single at =
    let same : x ≡ e = some_same x e at in
    cond-true (x.file == e.file) x.generation (generation_in entries e.file) (eq-eqb x.file e.file (ap (λ (y : DirEntry). y.file) same)) ∙ ap (λ (y : DirEntry). y.generation) same
generation-entry (Some x ∷ entries) (suc index) e single at =
    let apart : x.file ≢ e.file = λ same. let s : 0 ≡ suc index = single 0 (suc index) x e refl at same in absurd (omega (arith, s)) in
    cond-false (x.file == e.file) x.generation (generation_in entries e.file) (ne_eqb x.file e.file apart)
    ∙ generation-entry entries index e (single_rest (Some x) entries single) at
