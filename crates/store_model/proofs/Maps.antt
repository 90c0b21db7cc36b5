-- Maps of objects after an insertion, a removal and a change.
use Rattle.std.proofs.Common.{◌≡◌, ◌≤◌, ℕ, Bool, true, false, cond, [], ◌∷◌, length, ap, sym, ◌∙◌, refl, is_some, Some, None, true≢false, ◌+◌, arith}
use Rattle.std.specs.declared.cmp.Ordering.{Ordering}
use Rattle.std.specs.declared.cmp.Ordering.TheVariants.{Less, Equal, Greater}
use Rattle.std.specs.Ordering.{match_ordering}
use Rattle.std.specs.Map.{set_value, remove_entry}
use Rattle.std.specs.BTreeMap.{insert_entry}
use Rattle.store_model.specs.declared.name.ObjectName.{ObjectName}
use Rattle.store_model.specs.Name.{name_cmp}
use Rattle.std.specs.Ordering.{is_eq, ordering_reverse}
use Rattle.std.specs.Map.{keys_of, lookup}
use Rattle.std.specs.List.{AllByRecursion}
use Rattle.std.specs.List.Sorted.{IsStrictlySortedBy}
use Rattle.std.specs.Cmp.{IsTotalOrder}
use Rattle.std.proofs.lemmas.Cmp.{nat_list_cmp_total, on_total, then_total, tied_itself}
use Rattle.store_model.specs.Object.{Object, ObjectMap, AreNamed, object_at, holds, moved_object, without_object, with_object}

pub AreNamed-insert_entry : (objects : ObjectMap) (name : ObjectName) (object : Object) → 1 ≤ length name.id → AreNamed objects → AreNamed (insert_entry name_cmp objects name object)
AreNamed-insert_entry [] name object some h = (some, tt)
AreNamed-insert_entry (e ∷ objects) name object some h = elim (name_cmp name e.0) as (λ o. AreNamed (match_ordering o ((name, object) ∷ e ∷ objects) ((e.0, object) ∷ objects) (e ∷ insert_entry name_cmp objects name object))) [
  | Less ↦ (some, h)
  | Equal ↦ (h.0, h.1)
  | Greater ↦ (h.0, AreNamed-insert_entry objects name object some h.1)
]

pub AreNamed-remove_entry : (test : ObjectName → Bool) (objects : ObjectMap) → AreNamed objects → AreNamed (remove_entry test objects)
AreNamed-remove_entry test [] h = h
AreNamed-remove_entry test (e ∷ objects) h = elim (test e.0) as (λ b. AreNamed (cond b objects (e ∷ remove_entry test objects))) [
  | true ↦ h.1
  | false ↦ (h.0, AreNamed-remove_entry test objects h.1)
]

pub AreNamed-set_value : (test : ObjectName → Bool) (objects : ObjectMap) (object : Object) → AreNamed objects → AreNamed (set_value test objects object)
AreNamed-set_value test [] object h = h
AreNamed-set_value test (e ∷ objects) object h = elim (test e.0) as (λ b. AreNamed (cond b ((e.0, object) ∷ objects) (e ∷ set_value test objects object))) [
  | true ↦ (h.0, h.1)
  | false ↦ (h.0, AreNamed-set_value test objects object h.1)
]

pub name_cmp_total : IsTotalOrder name_cmp
name_cmp_total = then_total (on_total (λ n. n.app) nat_list_cmp_total) (on_total (λ n. n.id) nat_list_cmp_total)

-- the two names are alike
abbrev pub at : ObjectName → ObjectName → Bool
at name n = is_eq (name_cmp name n)

pub insert_entry-less : (name : ObjectName) (object : Object) (e : ObjectName × Object) (objects : ObjectMap) → name_cmp name e.0 ≡ Less → insert_entry name_cmp (e ∷ objects) name object ≡ (name, object) ∷ e ∷ objects
insert_entry-less name object e objects h = ap (λ o. match_ordering o ((name, object) ∷ e ∷ objects) ((e.0, object) ∷ objects) (e ∷ insert_entry name_cmp objects name object)) h

pub insert_entry-equal : (name : ObjectName) (object : Object) (e : ObjectName × Object) (objects : ObjectMap) → name_cmp name e.0 ≡ Equal → insert_entry name_cmp (e ∷ objects) name object ≡ (e.0, object) ∷ objects
insert_entry-equal name object e objects h = ap (λ o. match_ordering o ((name, object) ∷ e ∷ objects) ((e.0, object) ∷ objects) (e ∷ insert_entry name_cmp objects name object)) h

pub insert_entry-greater : (name : ObjectName) (object : Object) (e : ObjectName × Object) (objects : ObjectMap) → name_cmp name e.0 ≡ Greater → insert_entry name_cmp (e ∷ objects) name object ≡ e ∷ insert_entry name_cmp objects name object
insert_entry-greater name object e objects h = ap (λ o. match_ordering o ((name, object) ∷ e ∷ objects) ((e.0, object) ∷ objects) (e ∷ insert_entry name_cmp objects name object)) h

pub remove_entry-at : (b : Bool) (test : ObjectName → Bool) (e : ObjectName × Object) (objects : ObjectMap) → test e.0 ≡ b → remove_entry test (e ∷ objects) ≡ cond b objects (e ∷ remove_entry test objects)
remove_entry-at b test e objects h = ap (λ b. cond b objects (e ∷ remove_entry test objects)) h

pub set_value-at : (b : Bool) (test : ObjectName → Bool) (e : ObjectName × Object) (objects : ObjectMap) (object : Object) → test e.0 ≡ b → set_value test (e ∷ objects) object ≡ cond b ((e.0, object) ∷ objects) (e ∷ set_value test objects object)
set_value-at b test e objects object h = ap (λ b. cond b ((e.0, object) ∷ objects) (e ∷ set_value test objects object)) h

-- the name is below each of these
abbrev pub IsBelow : ObjectName → ObjectMap → Type 0
IsBelow name objects = AllByRecursion (λ n. name_cmp name n ≡ Less) (keys_of objects)

pub IsBelow-trans : (low high : ObjectName) (objects : ObjectMap) → name_cmp low high ≡ Less → IsBelow high objects → IsBelow low objects
IsBelow-trans low high [] h below = tt
IsBelow-trans low high (e ∷ objects) h below = (name_cmp_total.trans low high e.0 h below.0, IsBelow-trans low high objects h below.1)

pub IsBelow-remove_entry : (name : ObjectName) (test : ObjectName → Bool) (objects : ObjectMap) → IsBelow name objects → IsBelow name (remove_entry test objects)
IsBelow-remove_entry name test [] below = tt
IsBelow-remove_entry name test (e ∷ objects) below = elim (test e.0) as (λ b. IsBelow name (cond b objects (e ∷ remove_entry test objects))) [
  | true ↦ below.1
  | false ↦ (below.0, IsBelow-remove_entry name test objects below.1)
]

pub insert_entry-below : (name : ObjectName) (object : Object) (objects : ObjectMap) → IsBelow name objects → insert_entry name_cmp objects name object ≡ (name, object) ∷ objects
insert_entry-below name object [] below = refl
insert_entry-below name object (e ∷ objects) below = insert_entry-less name object e objects below.0

-- a value that was inserted and then set is as if it was inserted so
pub set_value-insert_entry : (name : ObjectName) (first object : Object) (objects : ObjectMap) → set_value (at name) (insert_entry name_cmp objects name first) object ≡ insert_entry name_cmp objects name object
set_value-insert_entry name first object [] = set_value-at true (at name) (name, first) [] object (ap is_eq (tied_itself name_cmp_total name))
set_value-insert_entry name first object (e ∷ objects) = (elim (name_cmp name e.0) as (λ o. name_cmp name e.0 ≡ o → set_value (at name) (insert_entry name_cmp (e ∷ objects) name first) object ≡ insert_entry name_cmp (e ∷ objects) name object) [
  | Less ↦ λ h.
      ap (λ l. set_value (at name) l object) (insert_entry-less name first e objects h)
      ∙ set_value-at true (at name) (name, first) (e ∷ objects) object (ap is_eq (tied_itself name_cmp_total name))
      ∙ sym (insert_entry-less name object e objects h)
  | Equal ↦ λ h.
      ap (λ l. set_value (at name) l object) (insert_entry-equal name first e objects h)
      ∙ set_value-at true (at name) (e.0, first) objects object (ap is_eq h)
      ∙ sym (insert_entry-equal name object e objects h)
  | Greater ↦ λ h.
      ap (λ l. set_value (at name) l object) (insert_entry-greater name first e objects h)
      ∙ set_value-at false (at name) e (insert_entry name_cmp objects name first) object (ap is_eq h)
      ∙ ap (λ l. e ∷ l) (set_value-insert_entry name first object objects)
      ∙ sym (insert_entry-greater name object e objects h)
]) refl

-- an entry put under a new name, then taken from the old one, and then given its value: the object was moved
pub moved_by_steps : (old new : ObjectName) (first object : Object) (objects : ObjectMap) → at old new ≡ false → holds objects new ≡ false → IsStrictlySortedBy name_cmp (keys_of objects) → set_value (at new) (remove_entry (at old) (insert_entry name_cmp objects new first)) object ≡ insert_entry name_cmp (remove_entry (at old) objects) new object
unfolding IsStrictlySortedBy
moved_by_steps old new first object [] apart free sorted =
    ap (λ l. set_value (at new) l object) (remove_entry-at false (at old) (new, first) [] apart)
    ∙ set_value-at true (at new) (new, first) [] object (ap is_eq (tied_itself name_cmp_total new))
moved_by_steps old new first object (e ∷ objects) apart free sorted = (elim (name_cmp new e.0) as (λ o. name_cmp new e.0 ≡ o → set_value (at new) (remove_entry (at old) (insert_entry name_cmp (e ∷ objects) new first)) object ≡ insert_entry name_cmp (remove_entry (at old) (e ∷ objects)) new object) [
  | Less ↦ λ h.
      ap (λ l. set_value (at new) (remove_entry (at old) l) object) (insert_entry-less new first e objects h)
      ∙ ap (λ l. set_value (at new) l object) (remove_entry-at false (at old) (new, first) (e ∷ objects) apart)
      ∙ set_value-at true (at new) (new, first) (remove_entry (at old) (e ∷ objects)) object (ap is_eq (tied_itself name_cmp_total new))
      ∙ sym (insert_entry-below new object (remove_entry (at old) (e ∷ objects)) (IsBelow-remove_entry new (at old) (e ∷ objects) (h, IsBelow-trans new e.0 objects h sorted.0)))
  | Equal ↦ λ h. absurd (true≢false (ap (λ o. is_some (cond (is_eq o) (Some e.1) (lookup (at new) objects))) (sym h) ∙ free))
  | Greater ↦ λ h.
      ap (λ l. set_value (at new) (remove_entry (at old) l) object) (insert_entry-greater new first e objects h)
      ∙ ((elim (at old e.0) as (λ b. at old e.0 ≡ b → set_value (at new) (remove_entry (at old) (e ∷ insert_entry name_cmp objects new first)) object ≡ insert_entry name_cmp (remove_entry (at old) (e ∷ objects)) new object) [
        | true ↦ λ hit.
            ap (λ l. set_value (at new) l object) (remove_entry-at true (at old) e (insert_entry name_cmp objects new first) hit)
            ∙ set_value-insert_entry new first object objects
            ∙ sym (ap (λ l. insert_entry name_cmp l new object) (remove_entry-at true (at old) e objects hit))
        | false ↦ λ miss.
            ap (λ l. set_value (at new) l object) (remove_entry-at false (at old) e (insert_entry name_cmp objects new first) miss)
            ∙ set_value-at false (at new) e (remove_entry (at old) (insert_entry name_cmp objects new first)) object (ap is_eq h)
            ∙ ap (λ l. e ∷ l) (moved_by_steps old new first object objects apart (ap (λ o. is_some (cond (is_eq o) (Some e.1) (lookup (at new) objects))) (sym h) ∙ free) sorted.1)
            ∙ sym (insert_entry-greater new object e (remove_entry (at old) objects) h)
            ∙ sym (ap (λ l. insert_entry name_cmp l new object) (remove_entry-at false (at old) e objects miss))
      ]) refl)
]) refl

-- a name that is held and one that is not are apart
pub apart : (old new : ObjectName) (objects : ObjectMap) → holds objects old ≡ true → holds objects new ≡ false → at old new ≡ false
apart old new objects held free = (elim (name_cmp old new) as (λ o. name_cmp old new ≡ o → is_eq o ≡ false) [
  | Less ↦ λ h. refl
  | Equal ↦ λ h. absurd (true≢false (sym held ∙ ap (λ test. is_some (lookup test objects)) (λ i n. is_eq (name_cmp_total.congr old new n h i)) ∙ free))
  | Greater ↦ λ h. refl
]) refl

is_eq-reverse : (o : Ordering) → is_eq (ordering_reverse o) ≡ is_eq o
is_eq-reverse Less = refl
is_eq-reverse Equal = refl
is_eq-reverse Greater = refl

pub apart-sym : (old new : ObjectName) → at old new ≡ false → at new old ≡ false
apart-sym old new h = ap is_eq (name_cmp_total.antisymm new old) ∙ is_eq-reverse (name_cmp old new) ∙ h

-- one entry more, and one less
pub few-moved : (before between after : ℕ) (o p : Bool) → between ≡ before + cond o 0 1 → after + cond p 1 0 ≡ between → p ≡ true → before ≤ 256 → after ≤ 256
few-moved before between after true true more less there few = omega (arith, more, less, few)
few-moved before between after false true more less there few = omega (arith, more, less, few)
few-moved before between after o false more less there few = absurd (true≢false (sym there))

pub moved_object-held : (objects : ObjectMap) (old new : ObjectName) (object : Object) → object_at objects old ≡ Some object → moved_object objects old new ≡ with_object (without_object objects old) new object
moved_object-held objects old new object h = ap (λ o. elim o [ Some object ↦ with_object (without_object objects old) new object | None ↦ objects ]) h
