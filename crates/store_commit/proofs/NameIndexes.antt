-- The index of names, as entries change.
use Rattle.std.proofs.Common.{◌≡◌, ◌≢◌, ◌∙◌, ◌+◌, ◌<◌, ◌≤◌, ◌||◌, ◌==◌, ℕ, Bool, true, false, not, List, length, Option, Some, None, IsSome, is_none, if◌then◌else◌, is_eq, refl, sym, ap, subst, inl, inr, arith}
use Rattle.std.specs.Prelude.{slice_set}
use Rattle.std.proofs.lemmas.Bool.{and_parts, cases_eq, cases_lt}
use Rattle.std.proofs.lemmas.List.{get_or_past, set-get_or, set-set}
use Rattle.std.proofs.Math.ListN.{length-set}
use Rattle.std.specs.Str.{bytes_eq}
use Rattle.htree_file.proofs.SameBytes.{same_is}
use Rattle.store_model.specs.declared.name.ObjectName.{ObjectName}
use Rattle.store_model.specs.Name.{name_cmp, name_eq}
use Rattle.dir_records.specs.declared.entry.DirEntry.{DirEntry}
use Rattle.crash_core.specs.Entries.{is_double, name_of}
use Rattle.crash_core.specs.EntryLists.{entry_at}
use Rattle.crash_core.proofs.EntryMaps.{self}
use Rattle.crash_core.proofs.Lists.{set_else, set_here}
use Rattle.crash_core.proofs.Names.{alike_is, name_test}
use Rattle.dir_index.specs.Index.{IndexState, index_at}
use Rattle.crash_core.specs.declared.change.EntryChange.{EntryChange}
use Rattle.crash_core.specs.declared.change.EntryChange.TheVariants.{Put, Clear}
use Rattle.store_commit.specs.NameIndex.{AddsName, ClearsName, HasSameNames, IsIndexOf, PutsName, name_added, names_added}

pub room_kept : (o : Option ℕ) (a b : ℕ) → (IsSome o → b ≡ a + 1) → (o ≡ None → b ≡ a) → a ≤ b
room_kept None a b some none = let e = none refl in omega arith
room_kept (Some n) a b some none = let e = some refl in omega arith

pub not_true : (b : Bool) → true ≡ not b → b ≡ false
not_true true is = absurd (cc (is))
not_true false is = refl

pub not_not : (b : Bool) → false ≡ not b → b ≡ true
not_not true is = refl
not_not false is = absurd (cc (is))

-- names of the same bytes are one
pub equal_is : (a b : ObjectName) → name_eq a b ≡ true → a ≡ b
equal_is a b same =
    let both = and_parts (bytes_eq a.app b.app) (bytes_eq a.id b.id) same in
    λ i. record { app = same_is a.app b.app both.0 i; id = same_is a.id b.id both.1 i }

pub not_some : (e : DirEntry) → (let o : Option DirEntry = None in o ≡ Some e) → ⊥
not_some e is = absurd (cc (is))

pub no_place : (i : ℕ) → (let o : Option ℕ = None in o ≡ Some i) → ⊥
no_place i is = absurd (cc (is))

pub one_place : (i j : ℕ) → (let o : Option ℕ = Some i in o ≡ Some j) → i ≡ j
one_place i j is = cc (is)

pub one_entry : (e f : DirEntry) → (let o : Option DirEntry = Some e in o ≡ Some f) → e ≡ f
one_entry e f is = cc (is)

-- a place that holds an entry is one of the list
pub place_within : (entries : List (Option DirEntry)) (i : ℕ) (e : DirEntry) → entry_at entries i ≡ Some e → i < length entries
place_within entries i e at = elim (cases_lt i (length entries)) [
  | inl low ↦ low
  | inr high ↦ absurd (not_some e (sym (get_or_past entries i None high) ∙ at))
]

-- the name goes
module _ (s t : IndexState) (entries : List (Option DirEntry)) (i : ℕ) (old : DirEntry) (is : IsIndexOf s entries) (at : entry_at entries i ≡ Some old)
    (names : (other : ObjectName) → index_at t other ≡ (if is_eq (name_cmp other (name_of old)) then None else index_at s other)) where
  still : (name : ObjectName) (j : ℕ) (b : Bool) → is_eq (name_cmp name (name_of old)) ≡ b → index_at t name ≡ Some j → (b ≡ false) × (index_at s name ≡ Some j)
  still name j true alike held = absurd (no_place j (sym (names name ∙ ap (λ (b : Bool). let o : Option ℕ = if b then None else index_at s name in o) alike) ∙ held))
  still name j false alike held = (refl, sym (names name ∙ ap (λ (b : Bool). let o : Option ℕ = if b then None else index_at s name in o) alike) ∙ held)

  pub without_entry : IsIndexOf t (slice_set entries i None)
  without_entry = record {
    found = λ name j held.
        let stays = still name j (is_eq (name_cmp name (name_of old))) refl held in
        let f = is.found name j stays.1 in
        let other : j ≢ i = λ same. other_name name (f.0) stays.0 (sym f.2 ∙ ap name_of (one_entry f.0 old (sym f.1 ∙ ap (entry_at entries) same ∙ at))) in
        (f.0, set_else entries i None j other ∙ f.1, f.2);
    held = λ j e stands.
        let other : j ≢ i = λ same. not_some e (sym (gone j same) ∙ stands) in
        let was : entry_at entries j ≡ Some e = sym (set_else entries i None j other) ∙ stands in
        names (name_of e) ∙ ap (λ (b : Bool). let o : Option ℕ = if b then None else index_at s (name_of e) in o) (unlike j e other was) ∙ is.held j e was;
  }
    where
      other_name : (name : ObjectName) (e : DirEntry) → is_eq (name_cmp name (name_of old)) ≡ false → name ≡ name_of old → ⊥
      other_name name e unlike same = absurd (cc (sym unlike ∙ ap (λ (n : ObjectName). is_eq (name_cmp n (name_of old))) same ∙ ap is_eq (self (name_of old))))

      gone : (j : ℕ) → j ≡ i → entry_at (slice_set entries i None) j ≡ None
      gone j same = ap (entry_at (slice_set entries i None)) same ∙ set_here entries i None (place_within entries i old at)

      by_test : (b : Bool) (j : ℕ) (e : DirEntry) → is_eq (name_cmp (name_of e) (name_of old)) ≡ b → j ≢ i → entry_at entries j ≡ Some e → is_eq (name_cmp (name_of e) (name_of old)) ≡ false
      by_test false j e alike other was = alike
      by_test true j e alike other was = absurd (other (one_place j i
          (sym (is.held j e was) ∙ ap (index_at s) (alike_is (name_of e) (name_of old) alike) ∙ is.held i old at)))

      unlike : (j : ℕ) (e : DirEntry) → j ≢ i → entry_at entries j ≡ Some e → is_eq (name_cmp (name_of e) (name_of old)) ≡ false
      unlike j e other was = by_test (is_eq (name_cmp (name_of e) (name_of old))) j e refl other was

-- the name comes
module _ (s t : IndexState) (entries : List (Option DirEntry)) (i : ℕ) (new : DirEntry) (is : IsIndexOf s entries) (free : entry_at entries i ≡ None)
    (below : i < length entries) (absent : index_at s (name_of new) ≡ None) (adds : AddsName s t new i) where
  names : (other : ObjectName) → index_at t other ≡ (if is_eq (name_cmp other (name_of new)) then Some i else index_at s other)
  names = adds absent

  by_name : (name : ObjectName) (j : ℕ) (b : Bool) → is_eq (name_cmp name (name_of new)) ≡ b → index_at t name ≡ Some j
      → (e : DirEntry) × (entry_at (slice_set entries i (Some new)) j ≡ Some e) × (name_of e ≡ name)
  by_name name j true alike held =
      let same : i ≡ j = one_place i j (sym (names name ∙ ap (λ (b : Bool). let o : Option ℕ = if b then Some i else index_at s name in o) alike) ∙ held) in
      (new, ap (entry_at (slice_set entries i (Some new))) (sym same) ∙ set_here entries i (Some new) below, sym (alike_is name (name_of new) alike))
  by_name name j false alike held =
      let was : index_at s name ≡ Some j = sym (names name ∙ ap (λ (b : Bool). let o : Option ℕ = if b then Some i else index_at s name in o) alike) ∙ held in
      let f = is.found name j was in
      let other : j ≢ i = λ same. not_some f.0 (sym free ∙ ap (entry_at entries) (sym same) ∙ f.1) in
      (f.0, set_else entries i (Some new) j other ∙ f.1, f.2)

  by_place : (j : ℕ) (e : DirEntry) → entry_at (slice_set entries i (Some new)) j ≡ Some e → index_at t (name_of e) ≡ Some j
  by_place j e stands = elim (cases_eq j i) [
    | inl same ↦
        let is_new : new ≡ e = one_entry new e (sym (set_here entries i (Some new) below) ∙ ap (entry_at (slice_set entries i (Some new))) (sym same) ∙ stands) in
        names (name_of e)
        ∙ ap (λ (b : Bool). let o : Option ℕ = if b then Some i else index_at s (name_of e) in o)
        (ap (λ (n : ObjectName). is_eq (name_cmp n (name_of new))) (ap name_of (sym is_new)) ∙ ap is_eq (self (name_of new)))
        ∙ ap (λ (n : ℕ). let o : Option ℕ = Some n in o) (sym same)
    | inr other ↦
        let was : entry_at entries j ≡ Some e = sym (set_else entries i (Some new) j other) ∙ stands in
        names (name_of e)
        ∙ ap (λ (b : Bool). let o : Option ℕ = if b then Some i else index_at s (name_of e) in o) (by_test (is_eq (name_cmp (name_of e) (name_of new))) j e refl was)
        ∙ is.held j e was
  ]
    where
      by_test : (b : Bool) (j : ℕ) (e : DirEntry) → is_eq (name_cmp (name_of e) (name_of new)) ≡ b → entry_at entries j ≡ Some e → is_eq (name_cmp (name_of e) (name_of new)) ≡ false
      by_test false j e alike was = alike
      by_test true j e alike was = absurd (no_place j (sym absent ∙ ap (index_at s) (sym (alike_is (name_of e) (name_of new) alike)) ∙ is.held j e was))

  pub with_entry : IsIndexOf t (slice_set entries i (Some new))
  with_entry = record { found = λ name j held. by_name name j (is_eq (name_cmp name (name_of new))) refl held; held = by_place }

-- no other entry has the name of one that fits
module _ (s : IndexState) (entries : List (Option DirEntry)) (i : ℕ) (new : DirEntry) (is : IsIndexOf s entries) (whole : length entries ≡ 256)
    (alone : (j : ℕ) → j < 256 → j ≢ i → is_double (entry_at entries j) (Some new) ≡ false) (free : entry_at entries i ≡ None) where
  same_double : (e : DirEntry) → name_of e ≡ name_of new → is_double (Some e) (Some new) ≡ true
  same_double e same = ap (λ (b : Bool). b || e.file == new.file) (ap (λ (n : ObjectName). is_eq (name_cmp (name_of e) n)) (sym same) ∙ ap is_eq (self (name_of e)))

  by_index : (o : Option ℕ) → index_at s (name_of new) ≡ o → index_at s (name_of new) ≡ None
  by_index None at = at
  by_index (Some j) at =
      let f = is.found (name_of new) j at in
      let other : j ≢ i = λ same. not_some f.0 (sym free ∙ ap (entry_at entries) (sym same) ∙ f.1) in
      let low : j < 256 = subst (λ (n : ℕ). j < n) whole (place_within entries j f.0 f.1) in
      absurd (cc (sym (alone j low other) ∙ ap (λ (o : Option DirEntry). is_double o (Some new)) f.1 ∙ same_double f.0 f.2))

  pub absent_name : index_at s (name_of new) ≡ None
  absent_name = by_index (index_at s (name_of new)) refl

-- the entry keeps its name
pub with_same_name : (s : IndexState) (entries : List (Option DirEntry)) (i : ℕ) (old new : DirEntry) → IsIndexOf s entries → entry_at entries i ≡ Some old
    → name_of old ≡ name_of new → IsIndexOf s (slice_set entries i (Some new))
with_same_name s entries i old new is at same = record { found = found; held = held }
  where
    below : i < length entries
    below = place_within entries i old at

    found : (name : ObjectName) (j : ℕ) → index_at s name ≡ Some j → (e : DirEntry) × (entry_at (slice_set entries i (Some new)) j ≡ Some e) × (name_of e ≡ name)
    found name j held_at =
        let f = is.found name j held_at in
        elim (cases_eq j i) [
          | inl here ↦ (
            new,
            ap (entry_at (slice_set entries i (Some new))) here ∙ set_here entries i (Some new) below,
            sym same ∙ ap name_of (one_entry old f.0 (sym at ∙ ap (entry_at entries) (sym here) ∙ f.1)) ∙ f.2,
          )
          | inr other ↦ (f.0, set_else entries i (Some new) j other ∙ f.1, f.2)
        ]

    held : (j : ℕ) (e : DirEntry) → entry_at (slice_set entries i (Some new)) j ≡ Some e → index_at s (name_of e) ≡ Some j
    held j e stands = elim (cases_eq j i) [
      | inl here ↦
          let is_new : new ≡ e = one_entry new e (sym (set_here entries i (Some new) below) ∙ ap (entry_at (slice_set entries i (Some new))) (sym here) ∙ stands) in
          ap (index_at s) (ap name_of (sym is_new) ∙ sym same) ∙ is.held i old at ∙ ap (λ (n : ℕ). let o : Option ℕ = Some n in o) (sym here)
      | inr other ↦ is.held j e (sym (set_else entries i (Some new) j other) ∙ stands)
    ]

-- an entry is put in a free place
pub put_free : (s t : IndexState) (i : ℕ) (new : DirEntry) → AddsName s t new i → PutsName s t None i new
put_free s t i new adds entries whole fits at is =
    with_entry s t entries i new is at (subst (λ (n : ℕ). i < n) (sym whole) fits.below) (absent_name s entries i new is whole fits.alone at) adds

-- an entry is put in place of one of another name
pub put_other : (s m t : IndexState) (i : ℕ) (old new : DirEntry)
    → ((other : ObjectName) → index_at m other ≡ (if is_eq (name_cmp other (name_of old)) then None else index_at s other))
    → AddsName m t new i → PutsName s t (Some old) i new
put_other s m t i old new names adds entries whole fits at is =
    let gone : List (Option DirEntry) = slice_set entries i None in
    let below : i < length entries = subst (λ (n : ℕ). i < n) (sym whole) fits.below in
    let long : length gone ≡ 256 = length-set entries i None ∙ whole in
    let free : entry_at gone i ≡ None = set_here entries i None below in
    let mid : IsIndexOf m gone = without_entry s m entries i old is at names in
    let alone : (j : ℕ) → j < 256 → j ≢ i → is_double (entry_at gone j) (Some new) ≡ false =
    λ j low other. ap (λ (o : Option DirEntry). is_double o (Some new)) (set_else entries i None j other) ∙ fits.alone j low other in
    subst (IsIndexOf t) (set-set entries i None (Some new))
    (with_entry m t gone i new mid free (subst (λ (n : ℕ). i < n) (sym long) fits.below) (absent_name m gone i new mid long alone free) adds)

-- an entry is put in place of one of its name
pub put_same : (s : IndexState) (i : ℕ) (old new : DirEntry) → name_of old ≡ name_of new → PutsName s s (Some old) i new
put_same s i old new same entries whole fits at is = with_same_name s entries i old new is at same

-- the entry of a place goes
pub clear_some : (s t : IndexState) (i : ℕ) (old : DirEntry)
    → ((other : ObjectName) → index_at t other ≡ (if is_eq (name_cmp other (name_of old)) then None else index_at s other))
    → ClearsName s t (Some old) i
clear_some s t i old names entries whole below at is = without_entry s t entries i old is at names

pub clear_none : (s : IndexState) (i : ℕ) → ClearsName s s None i
clear_none s i entries whole below at is =
    subst (IsIndexOf s) (sym (set-get_or entries i None) ∙ ap (λ (o : Option DirEntry). slice_set entries i o) at) is

-- at most one name comes
pub added_most : (s : IndexState) (e : DirEntry) → name_added s e ≤ 1
added_most s e = by_test (is_none (index_at s (name_of e)))
  where
    by_test : (b : Bool) → (if b then 1 else 0) ≤ 1
    by_test true = omega arith
    by_test false = omega arith

pub changed_most : (s : IndexState) (change : EntryChange) → names_added s change ≤ 1
changed_most s (Put index e) = added_most s e
changed_most s (Clear index) = omega arith

-- one comes where the name is not held
pub added_one : (s : IndexState) (e : DirEntry) → index_at s (name_of e) ≡ None → name_added s e ≡ 1
added_one s e none = ap (λ (o : Option ℕ). if is_none o then 1 else 0) none

pub added_none : (s : IndexState) (e : DirEntry) (i : ℕ) → index_at s (name_of e) ≡ Some i → name_added s e ≡ 0
added_none s e i held = ap (λ (o : Option ℕ). if is_none o then 1 else 0) held

pub same_added : (s t : IndexState) (e : DirEntry) → index_at t (name_of e) ≡ index_at s (name_of e) → name_added t e ≡ name_added s e
same_added s t e same = ap (λ (o : Option ℕ). if is_none o then 1 else 0) same

pub same_changed : (s t : IndexState) (change : EntryChange) → HasSameNames s t → names_added t change ≡ names_added s change
same_changed s t (Put index e) same = same_added s t e (same (name_of e))
same_changed s t (Clear index) same = refl

-- a name that is not taken out is held as before
pub other_still : (s t : IndexState) (old new : DirEntry) → name_eq (name_of old) (name_of new) ≡ false
    → ((other : ObjectName) → index_at t other ≡ (if is_eq (name_cmp other (name_of old)) then None else index_at s other))
    → index_at t (name_of new) ≡ index_at s (name_of new)
other_still s t old new unlike names =
    names (name_of new) ∙ ap (λ (b : Bool). let o : Option ℕ = if b then None else index_at s (name_of new) in o) (by_test (is_eq (name_cmp (name_of new) (name_of old))) refl)
  where
    by_test : (b : Bool) → is_eq (name_cmp (name_of new) (name_of old)) ≡ b → is_eq (name_cmp (name_of new) (name_of old)) ≡ false
    by_test false alike = alike
    by_test true alike = absurd (cc (sym unlike ∙ ap (λ (n : ObjectName). name_eq n (name_of new)) (sym (alike_is (name_of new) (name_of old) alike))
        ∙ (sym (name_test (name_of new) (name_of new)) ∙ ap is_eq (self (name_of new)))))

-- the same names are those of the entries still
pub same_index : (s t : IndexState) (entries : List (Option DirEntry)) → HasSameNames s t → IsIndexOf s entries → IsIndexOf t entries
same_index s t entries same is = record {
  found = λ name i held. is.found name i (sym (same name) ∙ held);
  held = λ i e at. same (name_of e) ∙ is.held i e at;
}
