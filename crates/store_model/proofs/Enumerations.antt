-- The least object of an application above an identifier, found in a map that is in the order of its names.
use Rattle.std.proofs.Common.{◌≡◌, ◌≤◌, ℕ, Bool, true, false, cond, ◌&&◌, ◌||◌, ◌==◌, nat_lt, List, [], ◌∷◌, length, Option, Some, None, ap, sym, ◌∙◌, refl, true≢false, is_some, suc, zero, arith}
use Rattle.std.specs.declared.cmp.Ordering.{Ordering}
use Rattle.std.specs.declared.cmp.Ordering.TheVariants.{Less, Equal, Greater}
use Rattle.std.specs.declared.ops.Bound.{Bound}
use Rattle.std.specs.declared.ops.Bound.TheVariants.{Included, Excluded, Unbounded}
use Rattle.std.specs.Ordering.{is_eq, is_lt, is_le, is_gt, ordering_then}
use Rattle.std.specs.Ordering.{nat_cmp}
use Rattle.std.specs.Cmp.Lexicographic.{slice_cmp}
use Rattle.std.specs.Option.{option_map}
use Rattle.std.proofs.lemmas.Bool.Decides.{nat_tests}
use Rattle.std.specs.List.{find, filter, list_any, AllByRecursion}
use Rattle.std.specs.List.Sorted.{IsStrictlySortedBy}
use Rattle.std.specs.Map.{keys_of}
use Rattle.std.specs.BTreeMap.Range.{is_from_start, range_contains}
use Rattle.std.proofs.lemmas.Cmp.{nat_list_cmp_total, alike_right}
use Rattle.tee_types.specs.Identifier.{bytes_cmp}
use Rattle.store_model.specs.declared.name.ObjectName.{ObjectName}
use Rattle.store_model.specs.Name.{name_cmp}
use Rattle.store_model.specs.Object.{Object, ObjectMap, AreNamed, size_of}
use Rattle.store_model.specs.Enumerating.{is_of, is_above, if_of, shown}

abbrev Entry : Type 0
Entry = ObjectName × Object

-- the first of these, or that entry
abbrev head_or : Entry → ObjectMap → Entry
head_or d [] = d
head_or d (e ∷ objects) = e

abbrev is_cons : ObjectMap → Bool
is_cons [] = false
is_cons (e ∷ objects) = true

-- the first entry that passes is the first of those that pass
pub find-filter_nil : (test : Entry → Bool) (objects : ObjectMap) → filter test objects ≡ [] → find test objects ≡ None
find-filter_nil test [] h = refl
find-filter_nil test (e ∷ objects) h = (elim (test e) as (λ b. cond b (e ∷ filter test objects) (filter test objects) ≡ [] → cond b (Some e) (find test objects) ≡ None) [
  | true ↦ λ h. absurd (true≢false (ap is_cons h))
  | false ↦ λ h. find-filter_nil test objects h
]) h

pub find-filter_cons : (test : Entry → Bool) (objects : ObjectMap) (first : Entry) (rest : ObjectMap) → filter test objects ≡ first ∷ rest → find test objects ≡ Some first
find-filter_cons test [] first rest h = absurd (true≢false (sym (ap is_cons h)))
find-filter_cons test (e ∷ objects) first rest h = (elim (test e) as (λ b. cond b (e ∷ filter test objects) (filter test objects) ≡ first ∷ rest → cond b (Some e) (find test objects) ≡ Some first) [
  | true ↦ λ h. ap (λ l. Some (head_or first l)) h
  | false ↦ λ h. find-filter_cons test objects first rest h
]) h

-- An entry passes the second test exactly where it passes the first and is of the application; and one that passes the first is not of
-- an application below.
pub record IsCut (application : List ℕ) (from wanted : Entry → Bool) (e : Entry) : Type 0 where
  pub both : wanted e ≡ (from e && is_of application e)
  pub past : from e ≡ true → is_gt (bytes_cmp application (e.0).app) ≡ false

abbrev pub AreCut : List ℕ → (Entry → Bool) → (Entry → Bool) → ObjectMap → Type 0
AreCut application from wanted [] = Unit {0}
AreCut application from wanted (e ∷ objects) = IsCut application from wanted e × AreCut application from wanted objects

and_false : (b : Bool) → (b && false) ≡ false
and_false true = refl
and_false false = refl

-- an application below that of a name is below that of each name above
below_app : (application : List ℕ) (n m : ObjectName) (o : Ordering) → bytes_cmp n.app m.app ≡ o → ordering_then o (bytes_cmp n.id m.id) ≡ Less → bytes_cmp application n.app ≡ Less → bytes_cmp application m.app ≡ Less
below_app application n m Less h less low = nat_list_cmp_total.trans application n.app m.app low h
below_app application n m Equal h less low = sym (alike_right nat_list_cmp_total n.app m.app application h) ∙ low
below_app application n m Greater h less low = absurd (true≢false (sym (ap is_lt less)))

-- where all these have names above one of a later application, none is wanted
below_all : (application : List ℕ) (from wanted : Entry → Bool) (name : ObjectName) (objects : ObjectMap) → bytes_cmp application name.app ≡ Less → AllByRecursion (λ n. name_cmp name n ≡ Less) (keys_of objects) → AreCut application from wanted objects → find wanted objects ≡ None
below_all application from wanted name [] less below cut = refl
below_all application from wanted name (e ∷ objects) less below cut =
    ap (λ b. cond b (Some e) (find wanted objects))
    (cut.0.both ∙ ap (λ o. from e && is_eq o) (below_app application name e.0 (bytes_cmp name.app (e.0).app) refl below.0 less) ∙ and_false (from e))
    ∙ below_all application from wanted name objects less below.1 cut.1

pub find_cut : (application : List ℕ) (from wanted : Entry → Bool) (objects : ObjectMap) → IsStrictlySortedBy name_cmp (keys_of objects) → AreCut application from wanted objects → find wanted objects ≡ if_of application (find from objects)
unfolding IsStrictlySortedBy
find_cut application from wanted [] sorted cut = refl
find_cut application from wanted (e ∷ objects) sorted cut = (elim (from e) as (λ b. from e ≡ b → find wanted (e ∷ objects) ≡ if_of application (cond b (Some e) (find from objects))) [
  | true ↦ λ passes. (elim (bytes_cmp application (e.0).app) as (λ o. bytes_cmp application (e.0).app ≡ o → find wanted (e ∷ objects) ≡ cond (is_eq o) (Some e) None) [
    | Less ↦ λ h.
        ap (λ b. cond b (Some e) (find wanted objects)) (cut.0.both ∙ ap (λ o. from e && is_eq o) h ∙ and_false (from e))
        ∙ below_all application from wanted e.0 objects h sorted.0 cut.1
    | Equal ↦ λ h. ap (λ b. cond b (Some e) (find wanted objects)) (cut.0.both ∙ ap (λ o. from e && is_eq o) h ∙ ap (λ b. b && true) passes)
    | Greater ↦ λ h. absurd (true≢false (sym (ap is_gt h) ∙ cut.0.past passes))
  ]) refl
  | false ↦ λ misses.
      ap (λ b. cond b (Some e) (find wanted objects)) (cut.0.both ∙ ap (λ b. b && is_of application e) misses)
      ∙ find_cut application from wanted objects sorted.1 cut.1
]) refl

-- no identifier is below the one of a zero byte
zero_least : (id : List ℕ) → 1 ≤ length id → is_le (bytes_cmp (0 ∷ []) id) ≡ true
zero_least [] some = absurd (omega arith)
zero_least (zero ∷ []) some = refl
zero_least (zero ∷ y ∷ id) some = refl
zero_least (suc x ∷ id) some =
    let less : nat_lt 0 (suc x) ≡ true = grind (arith, nat_tests) in
    ap (λ b. is_le (ordering_then (cond b Less (cond (0 == suc x) Equal Greater)) (slice_cmp nat_cmp [] id))) less

cut_least : (c d : Ordering) → is_le d ≡ true → is_eq c ≡ (is_le (ordering_then c d) && is_eq c)
cut_least Less d h = refl
cut_least Equal d h = ap (λ b. b && true) (sym h)
cut_least Greater d h = refl

past_least : (c d : Ordering) → is_le (ordering_then c d) ≡ true → is_gt c ≡ false
past_least Less d h = refl
past_least Equal d h = refl
past_least Greater d h = absurd (true≢false (sym h))

and_true : (b : Bool) → b ≡ (b && true)
and_true true = refl
and_true false = refl

cut_above : (c d : Ordering) → (is_eq c && is_lt d) ≡ (is_lt (ordering_then c d) && is_eq c)
cut_above Less d = refl
cut_above Equal d = and_true (is_lt d)
cut_above Greater d = refl

past_above : (c d : Ordering) → is_lt (ordering_then c d) ≡ true → is_gt c ≡ false
past_above Less d h = refl
past_above Equal d h = refl
past_above Greater d h = absurd (true≢false (sym h))

pub AreCut-first : (application : List ℕ) (objects : ObjectMap) → AreNamed objects → AreCut application (λ e. is_from_start name_cmp (Included (record { app = application; id = 0 ∷ [] })) e.0) (is_of application) objects
AreCut-first application [] h = tt
AreCut-first application (e ∷ objects) h = (
  record {
    both = cut_least (bytes_cmp application (e.0).app) (bytes_cmp (0 ∷ []) (e.0).id) (zero_least (e.0).id h.0);
    past = past_least (bytes_cmp application (e.0).app) (bytes_cmp (0 ∷ []) (e.0).id);
  },
  AreCut-first application objects h.1,
)

pub AreCut-above : (application id : List ℕ) (objects : ObjectMap) → AreCut application (λ e. is_from_start name_cmp (Excluded (record { app = application; id = id })) e.0) (is_above application id) objects
AreCut-above application id [] = tt
AreCut-above application id (e ∷ objects) = (
  record {
    both = cut_above (bytes_cmp application (e.0).app) (bytes_cmp id (e.0).id);
    past = past_above (bytes_cmp application (e.0).app) (bytes_cmp id (e.0).id);
  },
  AreCut-above application id objects,
)

-- the test of a range that has no end
pub range-from : (start : Bound ObjectName) (objects : ObjectMap) → filter (λ e. range_contains name_cmp start Unbounded e.0) objects ≡ filter (λ e. is_from_start name_cmp start e.0) objects
range-from start [] = refl
range-from start (e ∷ objects) =
    ap (λ b. cond b (e ∷ filter (λ e. range_contains name_cmp start Unbounded e.0) objects) (filter (λ e. range_contains name_cmp start Unbounded e.0) objects)) (sym (and_true (is_from_start name_cmp start e.0)))
    ∙ ap (λ l. cond (is_from_start name_cmp start e.0) (e ∷ l) l) (range-from start objects)

-- an application has an object exactly where a search finds one
pub list_any-find : (test : Entry → Bool) (objects : ObjectMap) → list_any test objects ≡ is_some (find test objects)
list_any-find test [] = refl
list_any-find test (e ∷ objects) = elim (test e) as (λ b. (b || list_any test objects) ≡ is_some (cond b (Some e) (find test objects))) [
  | true ↦ refl
  | false ↦ list_any-find test objects
]

-- what is told of the first entry from a bound on
pub shown-none : (application : List ℕ) (test : Entry → Bool) (objects : ObjectMap) → find test objects ≡ None → None ≡ option_map shown (if_of application (find test objects))
shown-none application test objects h = ap (λ o. option_map shown (if_of application o)) (sym h)

pub shown-first : (application : List ℕ) (test : Entry → Bool) (objects : ObjectMap) (e : Entry) (size : ℕ) → find test objects ≡ Some e → is_of application e ≡ true → size_of e.1 ≡ size → Some ((e.0).id, size) ≡ option_map shown (if_of application (find test objects))
shown-first application test objects e size h same is =
    ap (λ n. Some ((e.0).id, n)) (sym is)
    ∙ ap (λ b. option_map shown (cond b (Some e) None)) (sym same)
    ∙ ap (λ o. option_map shown (if_of application o)) (sym h)

pub shown-other : (application : List ℕ) (test : Entry → Bool) (objects : ObjectMap) (e : Entry) → find test objects ≡ Some e → is_of application e ≡ false → None ≡ option_map shown (if_of application (find test objects))
shown-other application test objects e h other =
    ap (λ b. option_map shown (cond b (Some e) None)) (sym other)
    ∙ ap (λ o. option_map shown (if_of application o)) (sym h)

pub is_some-shown : (found : Option Entry) → is_some (option_map shown found) ≡ is_some found
is_some-shown None = refl
is_some-shown (Some e) = refl
