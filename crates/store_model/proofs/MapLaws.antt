-- What a map of objects has at a name after a change, and its names and sizes.
use Rattle.std.proofs.Common.{◌≡◌, Bool, true, false, cond, List, [], ◌∷◌, map, ap, sym, ◌∙◌, refl, Option, Some, None, true≢false}
use Rattle.std.specs.declared.cmp.Ordering.TheVariants.{Less, Equal, Greater}
use Rattle.std.specs.Ordering.{is_eq, match_ordering, eq_by_cmp, ordering_reverse}
use Rattle.std.specs.Option.{option_map, IsSome}
use Rattle.std.specs.Map.{keys_of, lookup, set_value, remove_entry}
use Rattle.std.specs.BTreeMap.{insert_entry}
use Rattle.std.specs.List.Sorted.{IsStrictlySortedBy}
use Rattle.std.specs.Cmp.{IsEquivalence}
use Rattle.std.proofs.lemmas.Cmp.{eq_by_cmp_equiv}
use Rattle.std.proofs.lemmas.Map.{lookup-set_value, lookup-remove_entry}
use Rattle.std.proofs.lemmas.Map.Keys.{IsDistinct-from_sorted}
use Rattle.store_model.specs.declared.name.ObjectName.{ObjectName}
use Rattle.store_model.specs.Name.{name_cmp}
use Rattle.store_model.specs.Object.{Object, ObjectMap, object_at, with_object, without_object, changed_object}
use Rattle.store_model.proofs.Maps.{name_cmp_total, at, insert_entry-less, insert_entry-equal, insert_entry-greater, IsBelow, IsBelow-trans, IsBelow-remove_entry}

pub alike : IsEquivalence (eq_by_cmp name_cmp)
alike = eq_by_cmp_equiv name_cmp_total

-- what a map has under tied names is one
pub object_at-tied : (objects : ObjectMap) (a b : ObjectName) → at a b ≡ true → object_at objects a ≡ object_at objects b
object_at-tied objects a b e = λ i. lookup (λ (n : ObjectName). alike.congr a b n e i) objects

-- what a map has at a name after an insertion
with_first : (x : Object) (b : Bool) (old : Object) (rest : Option Object) → cond b (Some x) rest ≡ cond b (Some x) (cond b (Some old) rest)
with_first x true old rest = refl
with_first x false old rest = refl

with_later : (x : Object) (b c : Bool) (old : Object) (rest : Option Object) → (b ≡ true → c ≡ true → ⊥) → cond b (Some old) (cond c (Some x) rest) ≡ cond c (Some x) (cond b (Some old) rest)
with_later x true true old rest apart = absurd (apart refl refl)
with_later x true false old rest apart = refl
with_later x false c old rest apart = refl

pub object_at-with : (objects : ObjectMap) (name q : ObjectName) (x : Object) → object_at (with_object objects name x) q ≡ cond (at name q) (Some x) (object_at objects q)
object_at-with [] name q x = ap (λ (b : Bool). cond b (Some x) None) (alike.symm q name)
object_at-with (e ∷ objects) name q x = (elim (name_cmp name e.0) as (λ o. name_cmp name e.0 ≡ o → object_at (with_object (e ∷ objects) name x) q ≡ cond (at name q) (Some x) (object_at (e ∷ objects) q)) [
  | Less ↦ λ h.
      ap (λ (l : ObjectMap). object_at l q) (insert_entry-less name x e objects h)
      ∙ ap (λ (b : Bool). cond b (Some x) (object_at (e ∷ objects) q)) (alike.symm q name)
  | Equal ↦ λ h.
      let tied : at name q ≡ at q e.0 = alike.congr name e.0 q (ap is_eq h) ∙ alike.symm e.0 q in
      ap (λ (l : ObjectMap). object_at l q) (insert_entry-equal name x e objects h)
      ∙ with_first x (at q e.0) e.1 (object_at objects q)
      ∙ ap (λ (b : Bool). cond b (Some x) (object_at (e ∷ objects) q)) (sym tied)
  | Greater ↦ λ h.
      ap (λ (l : ObjectMap). object_at l q) (insert_entry-greater name x e objects h)
      ∙ ap (λ (o : Option Object). cond (at q e.0) (Some e.1) o) (object_at-with objects name q x)
      ∙ with_later x (at q e.0) (at name q) e.1 (object_at objects q)
      (λ first other. true≢false (sym first ∙ sym (alike.congr name q e.0 other) ∙ ap is_eq h))
]) refl

-- after a change of one object that is there
pub object_at-changed : (objects : ObjectMap) (name q : ObjectName) (x : Object) → IsSome (object_at objects name)
    → object_at (changed_object objects name x) q ≡ cond (at name q) (Some x) (object_at objects q)
object_at-changed objects name q x there = lookup-set_value alike (at name) (λ a b e. alike.congr name a b e) q x objects there

-- and after a removal
pub object_at-without : (objects : ObjectMap) (name q : ObjectName) → IsStrictlySortedBy name_cmp (keys_of objects)
    → object_at (without_object objects name) q ≡ cond (at name q) None (object_at objects q)
object_at-without objects name q rising =
    lookup-remove_entry alike (at name) (λ a b e. alike.congr name a b e) q objects (IsDistinct-from_sorted name_cmp (keys_of objects) rising)

-- The names stay in order.
below-with : (low name : ObjectName) (x : Object) (objects : ObjectMap) → name_cmp low name ≡ Less → IsBelow low objects → IsBelow low (with_object objects name x)
below-with low name x [] less below = (less, tt)
below-with low name x (e ∷ objects) less below = elim (name_cmp name e.0) as (λ o. IsBelow low (match_ordering o ((name, x) ∷ e ∷ objects) ((e.0, x) ∷ objects) (e ∷ insert_entry name_cmp objects name x))) [
  | Less ↦ (less, (below.0, below.1))
  | Equal ↦ (below.0, below.1)
  | Greater ↦ (below.0, below-with low name x objects less below.1)
]

pub rising-with : (objects : ObjectMap) (name : ObjectName) (x : Object) → IsStrictlySortedBy name_cmp (keys_of objects) → IsStrictlySortedBy name_cmp (keys_of (with_object objects name x))
unfolding IsStrictlySortedBy
rising-with [] name x rising = (tt, tt)
rising-with (e ∷ objects) name x rising = (elim (name_cmp name e.0) as (λ o. name_cmp name e.0 ≡ o → IsStrictlySortedBy name_cmp (keys_of (match_ordering o ((name, x) ∷ e ∷ objects) ((e.0, x) ∷ objects) (e ∷ insert_entry name_cmp objects name x)))) [
  | Less ↦ λ h. ((h, IsBelow-trans name e.0 objects h rising.0), (rising.0, rising.1))
  | Equal ↦ λ h. (rising.0, rising.1)
  | Greater ↦ λ h. (below-with e.0 name x objects (turned name e.0 h) rising.0, rising-with objects name x rising.1)
]) refl
  where
    turned : (a b : ObjectName) → name_cmp a b ≡ Greater → name_cmp b a ≡ Less
    turned a b h = name_cmp_total.antisymm b a ∙ ap ordering_reverse h

pub rising-without : (objects : ObjectMap) (test : ObjectName → Bool) → IsStrictlySortedBy name_cmp (keys_of objects) → IsStrictlySortedBy name_cmp (keys_of (remove_entry test objects))
unfolding IsStrictlySortedBy
rising-without [] test rising = rising
rising-without (e ∷ objects) test rising = elim (test e.0) as (λ b. IsStrictlySortedBy name_cmp (keys_of (cond b objects (e ∷ remove_entry test objects)))) [
  | true ↦ rising.1
  | false ↦ (IsBelow-remove_entry e.0 test objects rising.0, rising-without objects test rising.1)
]

-- The names of a map, each with what a function makes of its object.
abbrev pub mapped : {X Y : Type 0} → (X → Y) → List (ObjectName × X) → List (ObjectName × Y)
mapped f entries = map (λ e. (e.0, f e.1)) entries

pub lookup-mapped : {X Y : Type 0} (f : X → Y) (test : ObjectName → Bool) (entries : List (ObjectName × X)) → lookup test (mapped f entries) ≡ option_map f (lookup test entries)
lookup-mapped f test [] = refl
lookup-mapped f test (e ∷ entries) = elim (test e.0) as (λ b. cond b (Some (f e.1)) (lookup test (mapped f entries)) ≡ option_map f (cond b (Some e.1) (lookup test entries))) [
  | true ↦ refl
  | false ↦ lookup-mapped f test entries
]

pub mapped-with : {X Y : Type 0} (f : X → Y) (name : ObjectName) (x : X) (entries : List (ObjectName × X)) → mapped f (insert_entry name_cmp entries name x) ≡ insert_entry name_cmp (mapped f entries) name (f x)
mapped-with f name x [] = refl
mapped-with f name x (e ∷ entries) = elim (name_cmp name e.0) as (λ o. mapped f (match_ordering o ((name, x) ∷ e ∷ entries) ((e.0, x) ∷ entries) (e ∷ insert_entry name_cmp entries name x))
    ≡ match_ordering o ((name, f x) ∷ (e.0, f e.1) ∷ mapped f entries) ((e.0, f x) ∷ mapped f entries) ((e.0, f e.1) ∷ insert_entry name_cmp (mapped f entries) name (f x))) [
      | Less ↦ refl
      | Equal ↦ refl
      | Greater ↦ ap (λ l. (e.0, f e.1) ∷ l) (mapped-with f name x entries)
    ]

pub mapped-without : {X Y : Type 0} (f : X → Y) (test : ObjectName → Bool) (entries : List (ObjectName × X)) → mapped f (remove_entry test entries) ≡ remove_entry test (mapped f entries)
mapped-without f test [] = refl
mapped-without f test (e ∷ entries) = elim (test e.0) as (λ b. mapped f (cond b entries (e ∷ remove_entry test entries)) ≡ cond b (mapped f entries) ((e.0, f e.1) ∷ remove_entry test (mapped f entries))) [
  | true ↦ refl
  | false ↦ ap (λ l. (e.0, f e.1) ∷ l) (mapped-without f test entries)
]

pub mapped-changed : {X Y : Type 0} (f : X → Y) (test : ObjectName → Bool) (x : X) (entries : List (ObjectName × X)) → mapped f (set_value test entries x) ≡ set_value test (mapped f entries) (f x)
mapped-changed f test x [] = refl
mapped-changed f test x (e ∷ entries) = elim (test e.0) as (λ b. mapped f (cond b ((e.0, x) ∷ entries) (e ∷ set_value test entries x)) ≡ cond b ((e.0, f x) ∷ mapped f entries) ((e.0, f e.1) ∷ set_value test (mapped f entries) (f x))) [
  | true ↦ refl
  | false ↦ ap (λ l. (e.0, f e.1) ∷ l) (mapped-changed f test x entries)
]
