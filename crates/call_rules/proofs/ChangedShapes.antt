-- The shape of the map after an entry is put, and after one is cleared.
use Rattle.std.proofs.Common.{◌≡◌, ◌≢◌, ◌⊎◌, ◌<◌, ℕ, zero, suc, Bool, true, false, true≢false, cond, List, [], ◌∷◌, length, get_or, Option, Some, None, inl, inr, refl, sym, ap, ◌∙◌, subst, is_eq, arith}
use Rattle.std.specs.Prelude.{slice_set}
use Rattle.std.specs.Map.{keys_of}
use Rattle.std.specs.List.Sorted.{IsStrictlySortedBy}
use Rattle.std.proofs.lemmas.Bool.{cond-true, cond-false}
use Rattle.store_model.specs.declared.name.ObjectName.{ObjectName}
use Rattle.store_model.specs.Name.{name_cmp}
use Rattle.store_model.specs.Object.{Object, ObjectMap, object_at, size_of, without_object}
use Rattle.store_model.proofs.Maps.{at}
use Rattle.store_model.proofs.MapLaws.{alike, object_at-without, rising-without}
use Rattle.dir_records.specs.declared.entry.DirEntry.{DirEntry}
use Rattle.core_laws.specs.Entries.{name_of}
use Rattle.core_laws.specs.EntryLists.{AreDistinct, entry_at}
use Rattle.core_laws.specs.EntryChanges.{IsPlaceOf}
use Rattle.core_laws.proofs.EntryMaps.{self}
use Rattle.core_laws.proofs.Lists.{set_here, set_else}
use Rattle.call_rules.specs.Shapes.{HasShape}

-- what stands in a changed list is new and at the place, or stood elsewhere before
pub set_cases : {A : Type 0} (xs : List (Option A)) (k n : ℕ) (x : Option A) (a : A) → get_or (slice_set xs k x) n None ≡ Some a
    → ((n ≡ k) × (x ≡ Some a)) ⊎ ((n ≢ k) × (get_or xs n None ≡ Some a))
set_cases [] k n x a is = absurd (cc (is))
set_cases (y ∷ xs) zero zero x a is = inl (refl, is)
set_cases (y ∷ xs) zero (suc n) x a is = inr ((λ same. omega (arith, same)), is)
set_cases (y ∷ xs) (suc k) zero x a is = inr ((λ same. omega (arith, same)), is)
set_cases (y ∷ xs) (suc k) (suc n) x a is = elim (set_cases xs k n x a is) [
  | inl here ↦ inl (ap suc here.0, here.1)
  | inr there ↦ inr ((λ same. there.0 (omega (arith, same))), there.1)
]

-- what stands after a place is cleared stood elsewhere
pub cleared_at : {A : Type 0} (xs : List (Option A)) (k n : ℕ) (a : A) → get_or (slice_set xs k None) n None ≡ Some a
    → (n ≢ k) × (get_or xs n None ≡ Some a)
cleared_at xs k n a is = elim (set_cases xs k n None a is) [
  | inl here ↦ absurd (cc (here.1))
  | inr there ↦ there
]

-- names that are tied to one are tied
pub both_tied : (a b n : ObjectName) → at a n ≡ true → at b n ≡ true → at a b ≡ true
both_tied a b n one other = alike.congr a n b one ∙ alike.symm n b ∙ other

pub distinct-cleared : (entries : List (Option DirEntry)) (index : ℕ) → AreDistinct entries → AreDistinct (slice_set entries index None)
distinct-cleared entries index distinct i e stood j f other stands =
    distinct i e (cleared_at entries index i e stood).1 j f other (cleared_at entries index j f stands).1

-- An entry is cleared, and its object is gone.
module _ (entries : List (Option DirEntry)) (objects : ObjectMap) (index : ℕ) (e : DirEntry) (name : ObjectName) where
  cleared_each : entry_at entries index ≡ Some e → at name (name_of e) ≡ true → AreDistinct entries → HasShape entries objects
      → (i : ℕ) (f : DirEntry) → entry_at (slice_set entries index None) i ≡ Some f
      → (object : Object) × (object_at (without_object objects name) (name_of f) ≡ Some object) × (size_of object ≡ f.size)
  cleared_each stood named distinct shape i f stands =
      let was = cleared_at entries index i f stands in
      let held = shape.each i f was.1 in
      let off : at name (name_of f) ≡ false = alike.congr name (name_of e) (name_of f) named ∙ distinct index e stood i f was.0 was.1 in (
        held.0,
        object_at-without objects name (name_of f) shape.rising ∙ cond-false (at name (name_of f)) None (object_at objects (name_of f)) off ∙ held.1,
        held.2,
      )

  cleared_back : entry_at entries index ≡ Some e → at name (name_of e) ≡ true → HasShape entries objects
      → (q : ObjectName) (object : Object) → object_at (without_object objects name) q ≡ Some object
      → (i : ℕ) × (f : DirEntry) × (entry_at (slice_set entries index None) i ≡ Some f) × (at q (name_of f) ≡ true)
  cleared_back stood named shape q object stands = by_test (at name q) refl (sym (object_at-without objects name q shape.rising) ∙ stands)
    where
      by_test : (b : Bool) → at name q ≡ b → cond b None (object_at objects q) ≡ Some object
          → (i : ℕ) × (f : DirEntry) × (entry_at (slice_set entries index None) i ≡ Some f) × (at q (name_of f) ≡ true)
      by_test true tied is = absurd (cc (is))
      by_test false apart is =
          let was = shape.back q object is in
          let other : was.0 ≢ index = λ same.
          let entry : was.1 ≡ e = cc (was.2, stood, ap (entry_at entries) same) in
          true≢false (sym (both_tied name q (name_of e) named (ap (λ (f : DirEntry). at q (name_of f)) (sym entry) ∙ was.3)) ∙ apart) in
          (was.0, was.1, set_else entries index None was.0 other ∙ was.2, was.3)

  pub cleared_shape : entry_at entries index ≡ Some e → at name (name_of e) ≡ true → AreDistinct entries → HasShape entries objects
      → HasShape (slice_set entries index None) (without_object objects name)
  cleared_shape stood named distinct shape = record {
    each = cleared_each stood named distinct shape;
    back = cleared_back stood named shape;
    rising = rising-without objects (at name) shape.rising;
  }

-- An entry is put, and its name has that object.
module _ (entries : List (Option DirEntry)) (objects after : ObjectMap) (index : ℕ) (e : DirEntry) (x : Object) where
  abbrev IsPutUnder : Type 0
  IsPutUnder = (q : ObjectName) → object_at after q ≡ cond (at (name_of e) q) (Some x) (object_at objects q)

  put_each : HasShape entries objects → AreDistinct (slice_set entries index (Some e)) → index < length entries → e.size ≡ size_of x → IsPutUnder
      → (i : ℕ) (f : DirEntry) → entry_at (slice_set entries index (Some e)) i ≡ Some f
      → (object : Object) × (object_at after (name_of f) ≡ Some object) × (size_of object ≡ f.size)
  put_each shape distinct lt sized puts i f stands = elim (set_cases entries index i (Some e) f stands) [
    | inl here ↦
        let entry : e ≡ f = cc (here.1) in
        subst (λ (g : DirEntry). (object : Object) × (object_at after (name_of g) ≡ Some object) × (size_of object ≡ g.size)) entry
        (x, puts (name_of e) ∙ cond-true (at (name_of e) (name_of e)) (Some x) (object_at objects (name_of e)) (ap is_eq (self (name_of e))), sym sized)
    | inr there ↦
        let held = shape.each i f there.1 in
        let off : at (name_of e) (name_of f) ≡ false = distinct index e (set_here entries index (Some e) lt) i f there.0 stands in
        (held.0, puts (name_of f) ∙ cond-false (at (name_of e) (name_of f)) (Some x) (object_at objects (name_of f)) off ∙ held.1, held.2)
  ]

  put_back : HasShape entries objects → IsPlaceOf (name_of e) (entry_at entries index) → index < length entries → IsPutUnder
      → (q : ObjectName) (object : Object) → object_at after q ≡ Some object
      → (i : ℕ) × (f : DirEntry) × (entry_at (slice_set entries index (Some e)) i ≡ Some f) × (at q (name_of f) ≡ true)
  put_back shape place lt puts q object stands = by_test (at (name_of e) q) refl (sym (puts q) ∙ stands)
    where
      by_test : (b : Bool) → at (name_of e) q ≡ b → cond b (Some x) (object_at objects q) ≡ Some object
          → (i : ℕ) × (f : DirEntry) × (entry_at (slice_set entries index (Some e)) i ≡ Some f) × (at q (name_of f) ≡ true)
      by_test true tied is = (index, e, set_here entries index (Some e) lt, alike.symm q (name_of e) ∙ tied)
      by_test false apart is =
          let was = shape.back q object is in
          let other : was.0 ≢ index = λ same.
          let named : name_of was.1 ≡ name_of e = subst (IsPlaceOf (name_of e)) (ap (entry_at entries) (sym same) ∙ was.2) place in
          true≢false (sym was.3 ∙ ap (at q) named ∙ alike.symm q (name_of e) ∙ apart) in
          (was.0, was.1, set_else entries index (Some e) was.0 other ∙ was.2, was.3)

  pub put_shape : HasShape entries objects → IsPlaceOf (name_of e) (entry_at entries index) → AreDistinct (slice_set entries index (Some e)) → index < length entries
      → e.size ≡ size_of x → IsPutUnder → IsStrictlySortedBy name_cmp (keys_of after) → HasShape (slice_set entries index (Some e)) after
  put_shape shape place distinct lt sized puts rising = record {
    each = put_each shape distinct lt sized puts;
    back = put_back shape place lt puts;
    rising = rising;
  }
