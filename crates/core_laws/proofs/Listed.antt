-- The directory's entries beside those of the history.
use Rattle.std.proofs.Common.{◌≡◌, Bool, true, false, true≢false, cond, List, [], ◌∷◌, Some, inl, inr, refl, sym, ap, ◌∙◌, is_eq}
use Rattle.std.specs.Prelude.{Contains}
use Rattle.std.proofs.lemmas.Bool.{cases_Bool, cases_eq, cond-true, cond-false}
use Rattle.store_model.specs.declared.name.ObjectName.{ObjectName}
use Rattle.store_model.proofs.Maps.{at}
use Rattle.store_model.proofs.MapLaws.{alike}
use Rattle.crash_core.specs.Entries.{name_of}
use Rattle.crash_core.specs.EntryLists.{entry_at}
use Rattle.crash_core.proofs.EntryMaps.{self}
use Rattle.history_seats.specs.Mounts.{Entry}
use Rattle.core_laws.specs.Listed.{IsInDirectory, history_entry}
use Rattle.core_laws.proofs.Contained.{contains_cases, contains_first, contains_later, contains_none}
use Rattle.core_laws.specs.Stores.{entry_named}
use Rattle.core_laws.specs.Listings.{ListedEntriesAreApart, ListedEntriesAreNamed}
use Rattle.core_laws.proofs.Mending.{none_some, some_same}

-- an entry that a name has, has that name
pub name_found : (name : ObjectName) (e : Entry) (entries : List Entry) → entry_named name entries ≡ Some e → at name e.name ≡ true
name_found name e [] is = absurd (none_some e is)
name_found name e (x ∷ entries) is = by_test (name_found name e entries) (at name x.name) refl is
  where
    by_test : (entry_named name entries ≡ Some e → at name e.name ≡ true) → (b : Bool) → at name x.name ≡ b → cond b (Some x) (entry_named name entries) ≡ Some e → at name e.name ≡ true
    by_test later true tied same = ap (λ (y : Entry). at name y.name) (sym (some_same x e same)) ∙ tied
    by_test later false apart same = later same

-- and is among them
pub named_there : (name : ObjectName) (e : Entry) (entries : List Entry) → entry_named name entries ≡ Some e → Contains entries e
named_there name e [] is = absurd (none_some e is)
named_there name e (x ∷ entries) is = by_test (named_there name e entries) (at name x.name) is
  where
    by_test : (entry_named name entries ≡ Some e → Contains entries e) → (b : Bool) → cond b (Some x) (entry_named name entries) ≡ Some e → Contains (x ∷ entries) e
    by_test later true same = contains_first x e entries (some_same x e same)
    by_test later false same = contains_later x e entries (later same)

-- a name that one of them has is found
named_found : (name : ObjectName) (x : Entry) (entries : List Entry) → Contains entries x → at name x.name ≡ true → (e : Entry) × (entry_named name entries ≡ Some e)
named_found name x [] there tied = absurd (contains_none x there)
named_found name x (y ∷ entries) there tied = elim (cases_Bool (at name y.name)) [
  | inl here ↦ (y, cond-true (at name y.name) (Some y) (entry_named name entries) here)
  | inr other ↦ elim (contains_cases y x entries there) [
    | inl is ↦ absurd (true≢false (sym tied ∙ ap (λ (e : Entry). at name e.name) (sym is) ∙ other))
    | inr more ↦ let rest = named_found name x entries more tied in (rest.0, cond-false (at name y.name) (Some y) (entry_named name entries) other ∙ rest.1)
  ]
]

-- entries that a directory lists have one name each, since no two have one file
pub listed_apart : ListedEntriesAreApart
listed_apart listed entries lists single a b e f named_e named_f same_file =
    let one : IsInDirectory listed e = lists.back e (named_there a e entries named_e) in
    let other : IsInDirectory listed f = lists.back f (named_there b f entries named_f) in
    let file : one.entry.file ≡ other.entry.file = ap (λ (y : Entry). y.file) one.is ∙ same_file ∙ sym (ap (λ (y : Entry). y.file) other.is) in
    let place : one.index ≡ other.index = single one.index other.index one.entry other.entry one.at other.at file in
    let entry : one.entry ≡ other.entry = some_same one.entry other.entry (sym one.at ∙ ap (entry_at listed) place ∙ other.at) in
    let name : e.name ≡ f.name = sym (ap (λ (y : Entry). y.name) one.is) ∙ ap name_of entry ∙ ap (λ (y : Entry). y.name) other.is in
    alike.congr a e.name b (name_found a e entries named_e) ∙ ap (λ (n : ObjectName). at n b) name ∙ alike.symm f.name b ∙ name_found b f entries named_f

-- an entry of the directory is the one of its name
pub listed_named : ListedEntriesAreNamed
listed_named listed entries lists distinct index e stood =
    let name : ObjectName = name_of e in
    let found = named_found name (history_entry e) entries (lists.each index e stood) (ap is_eq (self name)) in
    let other : IsInDirectory listed found.0 = lists.back found.0 (named_there name found.0 entries found.1) in
    let tied : at name (name_of other.entry) ≡ true = ap (λ (y : Entry). at name y.name) other.is ∙ name_found name found.0 entries found.1 in
    elim (cases_eq other.index index) [
      | inl same ↦
          let is : e ≡ other.entry = some_same e other.entry (sym stood ∙ ap (entry_at listed) (sym same) ∙ other.at) in
          found.1 ∙ ap (λ (y : Entry). Some y) (sym (ap history_entry is ∙ other.is))
      | inr else_ ↦ absurd (true≢false (sym tied ∙ distinct index e stood other.index other.entry else_ other.at))
    ]
