-- The object that an enumerator gives next is that of the least entry.
use Rattle.std.proofs.Common.{◌≡◌, ℕ, Bool, true, false, true≢false, cond, List, [], ◌∷◌, is_some, Option, Some, None, refl, sym, ap, ◌∙◌, is_eq, option_map}
use Rattle.std.specs.declared.cmp.Ordering.{Ordering}
use Rattle.std.specs.declared.cmp.Ordering.TheVariants.{Less, Equal, Greater}
use Rattle.std.specs.List.{find, list_any}
use Rattle.std.specs.List.Sorted.{IsStrictlySortedBy}
use Rattle.std.specs.Map.{keys_of}
use Rattle.std.specs.Ordering.{is_le, ordering_reverse, ordering_then}
use Rattle.std.proofs.lemmas.Bool.{and_parts, cond-true, cond-false}
use Rattle.std.proofs.lemmas.Cmp.{nat_list_cmp_total}
use Rattle.tee_types.specs.Identifier.{bytes_cmp}
use Rattle.store_model.specs.declared.name.ObjectName.{ObjectName}
use Rattle.store_model.specs.Name.{name_cmp}
use Rattle.store_model.specs.Object.{Object, ObjectMap, object_at}
use Rattle.store_model.specs.Enumerating.{is_of, next_object, shown}
use Rattle.store_model.proofs.Enumerations.{list_any-find}
use Rattle.store_model.proofs.Maps.{IsBelow, at, name_cmp_total}
use Rattle.dir_records.specs.declared.entry.DirEntry.{DirEntry}
use Rattle.dir_index.specs.Above.{is_above}
use Rattle.core_laws.specs.Entries.{name_of}
use Rattle.core_laws.specs.EntryLists.{entry_at}
use Rattle.core_laws.proofs.EntryMaps.{self}
use Rattle.core_laws.proofs.Names.{alike_is}
use Rattle.call_rules.specs.Shapes.{HasShape}
use Rattle.call_rules.specs.LookLaws.{cursor_after}
use Rattle.call_rules.proofs.ShownNames.{entry_of_object}

abbrev Entry : Type 0
Entry = ObjectName × Object

-- the first of a map is held
first_held : (x : Entry) (objects : ObjectMap) → object_at (x ∷ objects) x.0 ≡ Some x.1
first_held x objects = cond-true (at x.0 x.0) (Some x.1) (object_at objects x.0) (ap is_eq (self x.0))

-- what a tied name has is the first
is_first : (x : Entry) (name : ObjectName) (object : Object) → at name x.0 ≡ true → Some x.1 ≡ Some object → x ≡ (name, object)
is_first x name object tied same = let one : x.1 ≡ object = cc (same) in λ i. (sym (alike_is name x.0 tied) i, one i)

-- a name below all is below one that is held
below_held : (low name : ObjectName) (object : Object) (objects : ObjectMap) → IsBelow low objects → object_at objects name ≡ Some object → name_cmp low name ≡ Less
below_held low name object [] below is = absurd (cc (is))
below_held low name object (x ∷ objects) below is = by_test (below_held low name object objects below.1) (at name x.0) refl is
  where
    by_test : (object_at objects name ≡ Some object → name_cmp low name ≡ Less) → (b : Bool) → at name x.0 ≡ b
        → cond b (Some x.1) (object_at objects name) ≡ Some object → name_cmp low name ≡ Less
    by_test later true tied same = ap (name_cmp low) (alike_is name x.0 tied) ∙ below.0
    by_test later false apart same = later same

-- what is held behind the first is held
later_held : (x y : Entry) (objects : ObjectMap) → IsBelow x.0 objects → object_at objects y.0 ≡ Some y.1 → object_at (x ∷ objects) y.0 ≡ Some y.1
later_held x y objects below held =
    let less : name_cmp x.0 y.0 ≡ Less = below_held x.0 y.0 y.1 objects below held in
    let above : name_cmp y.0 x.0 ≡ Greater = name_cmp_total.antisymm y.0 x.0 ∙ ap ordering_reverse less in
    cond-false (at y.0 x.0) (Some x.1) (object_at objects y.0) (ap is_eq above) ∙ held

module _ (test : Entry → Bool) where
  -- a search finds the least that passes
  find_held : (name : ObjectName) (object : Object) → test (name, object) ≡ true → (objects : ObjectMap) → IsStrictlySortedBy name_cmp (keys_of objects)
      → object_at objects name ≡ Some object → ((x : Entry) → object_at objects x.0 ≡ Some x.1 → name_cmp x.0 name ≡ Less → test x ≡ false)
      → find test objects ≡ Some (name, object)
  unfolding IsStrictlySortedBy
  find_held name object passes [] rising is fails = absurd (cc (is))
  find_held name object passes (x ∷ objects) rising is fails =
      by_test (λ there. find_held name object passes objects rising.1 there (λ y held. fails y (later_held x y objects rising.0 held))) (at name x.0) refl is
    where
      by_test : (object_at objects name ≡ Some object → find test objects ≡ Some (name, object)) → (b : Bool) → at name x.0 ≡ b
          → cond b (Some x.1) (object_at objects name) ≡ Some object → find test (x ∷ objects) ≡ Some (name, object)
      by_test later true tied same =
          let first : x ≡ (name, object) = is_first x name object tied same in
          cond-true (test x) (Some x) (find test objects) (ap test first ∙ passes) ∙ ap (λ (y : Entry). Some y) first
      by_test later false apart same =
          cond-false (test x) (Some x) (find test objects) (fails x (first_held x objects) (below_held x.0 name object objects rising.0 same)) ∙ later same

  -- or none
  find_none : (objects : ObjectMap) → IsStrictlySortedBy name_cmp (keys_of objects)
      → ((x : Entry) → object_at objects x.0 ≡ Some x.1 → test x ≡ false) → find test objects ≡ None
  unfolding IsStrictlySortedBy
  find_none [] rising fails = refl
  find_none (x ∷ objects) rising fails =
      cond-false (test x) (Some x) (find test objects) (fails x (first_held x objects))
      ∙ find_none objects rising.1 (λ y held. fails y (later_held x y objects rising.0 held))

  -- where one that is held passes, it finds one
  find_some : (name : ObjectName) (object : Object) → test (name, object) ≡ true → (objects : ObjectMap) → object_at objects name ≡ Some object
      → is_some (find test objects) ≡ true
  find_some name object passes [] is = absurd (cc (is))
  find_some name object passes (x ∷ objects) is = by_test (find_some name object passes objects) (at name x.0) refl is
    where
      by_pass : (b : Bool) → is_some (find test objects) ≡ true → is_some (cond b (Some x) (find test objects)) ≡ true
      by_pass true later = refl
      by_pass false later = later

      by_test : (object_at objects name ≡ Some object → is_some (find test objects) ≡ true) → (b : Bool) → at name x.0 ≡ b
          → cond b (Some x.1) (object_at objects name) ≡ Some object → is_some (find test (x ∷ objects)) ≡ true
      by_test later true tied same =
          ap is_some (cond-true (test x) (Some x) (find test objects) (ap test (is_first x name object tied same) ∙ passes))
      by_test later false apart same = by_pass (test x) (later same)

-- THE ENTRIES ABOVE AN IDENTIFIER
abbrev is_entry_above : List ℕ → Option (List ℕ) → Entry → Bool
is_entry_above app after x = is_above app after x.0

next_found : (objects : ObjectMap) (app : List ℕ) (after : Option (List ℕ)) → next_object objects app (cursor_after after) ≡ find (is_entry_above app after) objects
next_found objects app None = refl
next_found objects app (Some id) = refl

tied_is : (o : Ordering) → is_eq o ≡ true → o ≡ Equal
tied_is Less h = absurd (cc (h))
tied_is Equal h = refl
tied_is Greater h = absurd (cc (h))

-- what is above is of the application
of_application : (app : List ℕ) (after : Option (List ℕ)) (n : ObjectName) → is_above app after n ≡ true → bytes_cmp app n.app ≡ Equal
of_application app None n above = tied_is (bytes_cmp app n.app) above
of_application app (Some id) n above = tied_is (bytes_cmp app n.app) (and_parts _ _ above).0

-- of two names of one application that with the lesser identifier is less
not_least : (app : List ℕ) (after : Option (List ℕ)) (low high : ObjectName) → is_above app after low ≡ true → is_above app after high ≡ true
    → name_cmp low high ≡ Less → is_le (bytes_cmp high.id low.id) ≡ true → ⊥
not_least app after low high one other less least =
    let apps : bytes_cmp low.app high.app ≡ Equal =
    sym (nat_list_cmp_total.congr app low.app high.app (of_application app after low one)) ∙ of_application app after high other in
    let ids : bytes_cmp low.id high.id ≡ Less = sym (ap (λ (o : Ordering). ordering_then o (bytes_cmp low.id high.id)) apps) ∙ less in
    let turned : bytes_cmp high.id low.id ≡ Greater = nat_list_cmp_total.antisymm high.id low.id ∙ ap ordering_reverse ids in
    true≢false (sym least ∙ ap is_le turned)

not_true : (b : Bool) → (b ≡ true → ⊥) → b ≡ false
not_true true h = absurd (h refl)
not_true false h = refl

-- the least entry above is the next object
pub least_next : (entries : List (Option DirEntry)) (objects : ObjectMap) (app : List ℕ) (after : Option (List ℕ)) (index : ℕ) (e : DirEntry)
    → HasShape entries objects → entry_at entries index ≡ Some e → is_above app after (name_of e) ≡ true
    → ((i : ℕ) (f : DirEntry) → entry_at entries i ≡ Some f → is_above app after (name_of f) ≡ true → is_le (bytes_cmp e.id f.id) ≡ true)
    → option_map shown (next_object objects app (cursor_after after)) ≡ Some (e.id, e.size)
least_next entries objects app after index e shape stood above least =
    let held = shape.each index e stood in
    let fails : (x : Entry) → object_at objects x.0 ≡ Some x.1 → name_cmp x.0 (name_of e) ≡ Less → is_above app after x.0 ≡ false =
    λ x stands less. not_true (is_above app after x.0) (λ passes.
    let listed = entry_of_object entries objects x.0 x.1 shape stands in
    let other : DirEntry = (listed.1).entry in
    let named : name_of other ≡ x.0 = (listed.1).named in
    not_least app after x.0 (name_of e) passes above less
    (ap (λ (n : ObjectName). is_le (bytes_cmp e.id n.id)) (sym named) ∙ least listed.0 other (listed.1).at (ap (is_above app after) named ∙ passes))) in
    ap (option_map shown) (next_found objects app after ∙ find_held (is_entry_above app after) (name_of e) held.0 above objects shape.rising held.1 fails)
    ∙ ap (λ (size : ℕ). Some (e.id, size)) held.2

none_passes : (entries : List (Option DirEntry)) (objects : ObjectMap) (app : List ℕ) (after : Option (List ℕ)) → HasShape entries objects
    → ((i : ℕ) (f : DirEntry) → entry_at entries i ≡ Some f → is_above app after (name_of f) ≡ true → ⊥) → find (is_entry_above app after) objects ≡ None
none_passes entries objects app after shape none =
    find_none (is_entry_above app after) objects shape.rising (λ x stands. not_true (is_above app after x.0) (λ passes.
    let listed = entry_of_object entries objects x.0 x.1 shape stands in
    none listed.0 (listed.1).entry (listed.1).at (ap (is_above app after) (listed.1).named ∙ passes)))

-- where none is above there is none
pub none_next : (entries : List (Option DirEntry)) (objects : ObjectMap) (app : List ℕ) (after : Option (List ℕ)) → HasShape entries objects
    → ((i : ℕ) (f : DirEntry) → entry_at entries i ≡ Some f → is_above app after (name_of f) ≡ true → ⊥)
    → next_object objects app (cursor_after after) ≡ None
none_next entries objects app after shape none = next_found objects app after ∙ none_passes entries objects app after shape none

-- an application with an entry has an object, and one without has none
pub application_there : (entries : List (Option DirEntry)) (objects : ObjectMap) (app : List ℕ) (index : ℕ) (e : DirEntry) → HasShape entries objects
    → entry_at entries index ≡ Some e → is_above app None (name_of e) ≡ true → list_any (is_of app) objects ≡ true
application_there entries objects app index e shape stood above =
    let held = shape.each index e stood in
    list_any-find (is_entry_above app None) objects ∙ find_some (is_entry_above app None) (name_of e) held.0 above objects held.1

pub application_none : (entries : List (Option DirEntry)) (objects : ObjectMap) (app : List ℕ) → HasShape entries objects
    → ((i : ℕ) (f : DirEntry) → entry_at entries i ≡ Some f → is_above app None (name_of f) ≡ true → ⊥) → list_any (is_of app) objects ≡ false
application_none entries objects app shape none =
    list_any-find (is_entry_above app None) objects ∙ ap is_some (none_passes entries objects app None shape none)
