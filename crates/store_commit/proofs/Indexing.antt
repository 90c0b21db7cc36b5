-- The index of names that is built at a mount.
use Rattle.std.proofs.Common.{◌≡◌, ◌≢◌, ◌∙◌, ◌+◌, ◌<◌, ◌≤◌, ℕ, Bool, true, false, List, [], length, Option, Some, None, if◌then◌else◌, is_eq, refl, sym, ap, subst, inl, inr, arith}
use Rattle.std.proofs.lemmas.Bool.{cases_eq}
use Rattle.store_model.specs.declared.name.ObjectName.{ObjectName}
use Rattle.store_model.specs.Name.{name_cmp}
use Rattle.dir_records.specs.declared.entry.DirEntry.{DirEntry}
use Rattle.crash_core.specs.Entries.{first_double, name_of}
use Rattle.crash_core.specs.EntryLists.{AreDistinct, entry_at}
use Rattle.crash_core.proofs.Doubles.{names_distinct}
use Rattle.crash_core.proofs.EntryMaps.{self}
use Rattle.crash_core.proofs.Names.{alike_is}
use Rattle.dir_index.specs.Index.{IndexState, index_at}
use Rattle.dir_file.specs.EntryForms.{AreEntriesOf}
use Rattle.store_commit.specs.NameIndex.{AddsName, IndexesEntry, IsIndexOf}
use Rattle.store_commit.proofs.NameIndexes.{no_place, not_some, one_entry, one_place, place_within}

-- the names of the first entries are held
pub record IsIndexUpto (s : IndexState) (entries : List (Option DirEntry)) (n : ℕ) : Type 0 where
  pub found : (name : ObjectName) (i : ℕ) → index_at s name ≡ Some i → (i < n) × (e : DirEntry) × (entry_at entries i ≡ Some e) × (name_of e ≡ name)
  pub held : (i : ℕ) (e : DirEntry) → i < n → entry_at entries i ≡ Some e → index_at s (name_of e) ≡ Some i

pub none_indexed : (s : IndexState) (entries : List (Option DirEntry)) → s.entries ≡ [] → IsIndexUpto s entries 0
none_indexed s entries empty = record {
  found = λ name i held. absurd (no_place i (sym (ap (λ l. index_at (record { entries = l; spare = 0 }) name) empty) ∙ held));
  held = λ i e low at. absurd (omega (arith, low));
}

-- distinct entries have other names
pub entries_apart : (entries : List (Option DirEntry)) → AreEntriesOf entries → (i j : ℕ) (e f : DirEntry) → entry_at entries i ≡ Some e → entry_at entries j ≡ Some f
    → name_of e ≡ name_of f → i ≡ j
entries_apart entries are i j e f at there same = elim (cases_eq i j) [
  | inl is ↦ is
  | inr other ↦
      let distinct : AreDistinct entries = names_distinct entries (ap (first_double entries 0) are.whole ∙ are.apart) in
      absurd (cc (sym (distinct j f there i e other at) ∙ ap (λ (n : ObjectName). is_eq (name_cmp (name_of f) n)) same ∙ ap is_eq (self (name_of f))))
]

module _ (s t : IndexState) (entries : List (Option DirEntry)) (n : ℕ) (are : AreEntriesOf entries) (is : IsIndexUpto s entries n) where
  next_none : entry_at entries n ≡ None → t ≡ s → IsIndexUpto t entries (n + 1)
  next_none free same = subst (λ (x : IndexState). IsIndexUpto x entries (n + 1)) (sym same) (record {
    found = λ name i held. let f = is.found name i held in (omega (arith, f.0), f.1, f.2, f.3);
    held = λ i e low at. elim (cases_eq i n) [
      | inl here ↦ absurd (not_some e (sym free ∙ ap (entry_at entries) (sym here) ∙ at))
      | inr other ↦ is.held i e (omega arith) at
    ];
  })

  absent : (e : DirEntry) → entry_at entries n ≡ Some e → (o : Option ℕ) → index_at s (name_of e) ≡ o → index_at s (name_of e) ≡ None
  absent e at None none = none
  absent e at (Some j) held =
      let f = is.found (name_of e) j held in
      let same : j ≡ n = entries_apart entries are j n f.1 e f.2 at f.3 in
      absurd (omega (arith, f.0, same))

  module _ (e : DirEntry) (at : entry_at entries n ≡ Some e) (adds : AddsName s t e n) where
    names : (other : ObjectName) → index_at t other ≡ (if is_eq (name_cmp other (name_of e)) then Some n else index_at s other)
    names = adds (absent e at (index_at s (name_of e)) refl)

    by_name : (name : ObjectName) (i : ℕ) (b : Bool) → is_eq (name_cmp name (name_of e)) ≡ b → index_at t name ≡ Some i
        → (i < n + 1) × (x : DirEntry) × (entry_at entries i ≡ Some x) × (name_of x ≡ name)
    by_name name i true alike held =
        let same : n ≡ i = one_place n i (sym (names name ∙ ap (λ (b : Bool). let o : Option ℕ = if b then Some n else index_at s name in o) alike) ∙ held) in
        (omega (arith, same), e, ap (entry_at entries) (sym same) ∙ at, sym (alike_is name (name_of e) alike))
    by_name name i false alike held =
        let f = is.found name i (sym (names name ∙ ap (λ (b : Bool). let o : Option ℕ = if b then Some n else index_at s name in o) alike) ∙ held) in
        (omega (arith, f.0), f.1, f.2, f.3)

    unlike : (i : ℕ) (x : DirEntry) (b : Bool) → is_eq (name_cmp (name_of x) (name_of e)) ≡ b → i ≢ n → entry_at entries i ≡ Some x → is_eq (name_cmp (name_of x) (name_of e)) ≡ false
    unlike i x false alike other there = alike
    unlike i x true alike other there = absurd (other (entries_apart entries are i n x e there at (alike_is (name_of x) (name_of e) alike)))

    next_some : IsIndexUpto t entries (n + 1)
    next_some = record {
      found = λ name i held. by_name name i (is_eq (name_cmp name (name_of e))) refl held;
      held = λ i x low there. elim (cases_eq i n) [
        | inl here ↦
            let is_e : e ≡ x = one_entry e x (sym at ∙ ap (entry_at entries) (sym here) ∙ there) in
            names (name_of x)
            ∙ ap (λ (b : Bool). let o : Option ℕ = if b then Some n else index_at s (name_of x) in o)
            (ap (λ (m : ObjectName). is_eq (name_cmp m (name_of e))) (ap name_of (sym is_e)) ∙ ap is_eq (self (name_of e)))
            ∙ ap (λ (m : ℕ). let o : Option ℕ = Some m in o) (sym here)
        | inr other ↦
            names (name_of x)
            ∙ ap (λ (b : Bool). let o : Option ℕ = if b then Some n else index_at s (name_of x) in o) (unlike i x (is_eq (name_cmp (name_of x) (name_of e))) refl other there)
            ∙ is.held i x (omega arith) there
      ];
    }

  pub indexed_next : (o : Option DirEntry) → entry_at entries n ≡ o → IndexesEntry s t o n → IsIndexUpto t entries (n + 1)
  indexed_next None at adds = next_none at adds
  indexed_next (Some e) at adds = next_some e at adds

pub all_indexed : (s : IndexState) (entries : List (Option DirEntry)) (n : ℕ) → length entries ≤ n → IsIndexUpto s entries n → IsIndexOf s entries
all_indexed s entries n past is = record {
  found = λ name i held. let f = is.found name i held in (f.1, f.2, f.3);
  held = λ i e at. let low : i < length entries = place_within entries i e at in is.held i e (omega (arith, low, past)) at;
}
