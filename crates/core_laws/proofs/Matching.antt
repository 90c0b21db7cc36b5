-- Entries that match the history, each with its version, match it after a commit.
use Rattle.std.proofs.Common.{◌≡◌, ◌≢◌, ◌==◌, ℕ, true, false, List, [], ◌∷◌, Option, Some, None, inl, inr, sym, ap, ◌∙◌, subst, eq-eqb}
use Rattle.std.specs.Prelude.{Contains, slice_index_or}
use Rattle.std.proofs.lemmas.Bool.{cases_eq}
use Rattle.tee_types.specs.declared.call.Call.{Call}
use Rattle.tee_types.specs.declared.call.Call.TheVariants.{Delete}
use Rattle.store_model.specs.Record.{Tag}
use Rattle.dir_records.specs.declared.entry.DirEntry.{DirEntry}
use Rattle.history_seats.specs.Records.{Version, is_object}
use Rattle.history_seats.specs.Mounts.{Entry}
use Rattle.history_seats.specs.Versions.{is_entry_of}
use Rattle.history_seats.specs.Directory.{entries_committed, has_entry}
use Rattle.history_seats.proofs.Lists.{both_true, or_left, or_right}
use Rattle.crash_core.specs.EntryLists.{entry_at}
use Rattle.crash_core.specs.declared.change.EntryChange.{EntryChange}
use Rattle.crash_core.specs.declared.change.EntryChange.TheVariants.{Clear, Put}
use Rattle.crash_core.specs.EntryChanges.{changed, index_of}
use Rattle.crash_core.proofs.Lists.{set_else, set_here}
use Rattle.core_laws.specs.GateParts.{IsVersionOf}
use Rattle.core_laws.specs.Listed.{AreListed, history_entry}
use Rattle.core_laws.proofs.Contained.{contains_cases, contains_none}
use Rattle.core_laws.specs.Decodings.{IsReal}
use Rattle.core_laws.specs.Stores.{Store}
use Rattle.core_laws.specs.Mapped.{Versions}
use Rattle.core_laws.proofs.Mending.{none_some, some_same}
use Rattle.core_laws.proofs.MapCommits.{not_object}
use Rattle.core_laws.specs.Matched.{AreMatched}
use Rattle.core_laws.specs.CallChanges.{IsCallChange, IsEntryCommit}
use Rattle.core_laws.proofs.Uniqueness.{unique_committed}
use Rattle.core_laws.proofs.Listing.{listed_committed}

-- an entry that is there has its file and generation
pub contains_has : (entries : List Entry) (x : Entry) → Contains entries x → has_entry x.file x.generation entries ≡ true
contains_has [] x there = absurd (contains_none x there)
contains_has (y ∷ entries) x there = elim (contains_cases y x entries there) [
  | inl is ↦ or_left (is_entry_of x.file x.generation y) (has_entry x.file x.generation entries)
      (both_true (y.file == x.file) (y.generation == x.generation) (eq-eqb y.file x.file (ap (λ (e : Entry). e.file) is)) (eq-eqb y.generation x.generation (ap (λ (e : Entry). e.generation) is)))
  | inr more ↦ or_right (is_entry_of x.file x.generation y) (has_entry x.file x.generation entries) (contains_has entries x more)
]

module _ (store : Store) (entries : List (Option DirEntry)) (counter session : ℕ) (call : Call) (change : EntryChange) (tag : Tag Version) (left : Option Version)
    (c : IsEntryCommit store entries counter session call change tag left) (listed : List Entry) (versions after : Versions) (m : AreMatched store.keys entries listed versions) where
  abbrev pub application : List ℕ
  application = slice_index_or store.mounted.applications session []

  abbrev pub more : List Entry
  more = entries_committed application call (Some tag) listed

  -- the versions after the commit: what it leaves for its own file's generation, and what stood for the others
  pub record Follow : Type 0 where
    pub own : after tag.file tag.generation ≡ left
    pub others : (file generation : ℕ) → is_object file generation (Some tag) ≡ false → has_entry file generation more ≡ true → after file generation ≡ versions file generation

  -- an entry has its version, which is real
  abbrev HasVersion : DirEntry → Type 0
  HasVersion x = (v : Version) × (after x.file x.generation ≡ Some v) × IsVersionOf x v × IsReal store.keys v

  else_at : (change : EntryChange) (k : ℕ) → k ≢ index_of change → entry_at (changed entries change) k ≡ entry_at entries k
  else_at (Put index e) k other = set_else entries index (Some e) k other
  else_at (Clear index) k other = set_else entries index None k other

  -- a change that clears finds an entry
  cleared : (call : Call) (index : ℕ) → IsCallChange application call entries counter (Clear index) → (was : DirEntry) × (entry_at entries index ≡ Some was)
  cleared (Delete handle) index makes = (makes.1.entry, makes.1.at)
  cleared call index makes = absurd makes

  -- an entry at another place has another file than the tag
  other_file : (change : EntryChange) → IsEntryCommit store entries counter session call change tag left → (k : ℕ) (x : DirEntry) → k ≢ index_of change
      → entry_at (changed entries change) k ≡ Some x → x.file ≢ tag.file
  other_file (Put index e) own k x other at same = other (own.after.single k index x e at (set_here entries index (Some e) own.place) (same ∙ own.tagged.file))
  other_file (Clear index) own k x other at same =
      let was = cleared call index own.makes in
      other (own.before.single k index x was.0 (sym (else_at (Clear index) k other) ∙ at) was.1 (same ∙ (own.tagged was.0 was.1).file))

  module _ (follow : Follow) (lists : AreListed (changed entries change) more) where
    else_version : (k : ℕ) (x : DirEntry) → k ≢ index_of change → entry_at (changed entries change) k ≡ Some x → HasVersion x
    else_version k x other at =
        let stood : entry_at entries k ≡ Some x = sym (else_at change k other) ∙ at in
        let old = m.versions k x stood in
        let apart : is_object x.file x.generation (Some tag) ≡ false = not_object x.file x.generation tag (λ same. other_file change c k x other at same.0) in
        let there : has_entry x.file x.generation more ≡ true = contains_has more (history_entry x) (lists.each k x at) in
        (old.0, follow.others x.file x.generation apart there ∙ old.1, old.2, m.real k x old.0 stood old.1)

    here_version : (change : EntryChange) → IsEntryCommit store entries counter session call change tag left → (k : ℕ) (x : DirEntry) → k ≡ index_of change
        → entry_at (changed entries change) k ≡ Some x → HasVersion x
    here_version (Put index e) own k x is at =
        let one : e ≡ x = some_same e x (sym (set_here entries index (Some e) own.place) ∙ subst (λ (n : ℕ). entry_at (changed entries (Put index e)) n ≡ Some x) is at) in
        let v = own.leaves in
        subst HasVersion one
        (v.0, (λ i. after (sym own.tagged.file i) (sym own.tagged.generation i)) ∙ follow.own ∙ v.1, v.2, v.3)
    here_version (Clear index) own k x is at =
        absurd (none_some x (sym (set_here entries index None own.place) ∙ subst (λ (n : ℕ). entry_at (changed entries (Clear index)) n ≡ Some x) is at))

    has_version : (k : ℕ) (x : DirEntry) → entry_at (changed entries change) k ≡ Some x → HasVersion x
    has_version k x at = elim (cases_eq k (index_of change)) [
      | inl is ↦ here_version change c k x is at
      | inr other ↦ else_version k x other at
    ]

  pub matched_committed : Follow → AreMatched store.keys (changed entries change) more after
  matched_committed follow =
      let lists : AreListed (changed entries change) more = listed_committed application entries counter tag listed m.listed c.before call change c.place c.makes c.tagged c.after in
      record {
        listed = lists;
        unique = unique_committed application entries counter tag listed m.listed c.before m.unique call change c.makes c.tagged;
        versions = λ k x at. let h = has_version follow lists k x at in (h.0, h.1, h.2);
        real = λ k x v at is.
            let h = has_version follow lists k x at in
            subst (IsReal store.keys) (some_same h.0 v (sym h.1 ∙ is)) h.3;
      }
