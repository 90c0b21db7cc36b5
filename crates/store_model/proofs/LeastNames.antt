-- An enumerator gives the least name above the last one given.
use Rattle.std.proofs.Common.{◌≡◌, Bool, true, false, cond, [], ◌∷◌, ap, sym, ◌∙◌, refl, subst, Some, true≢false}
use Rattle.std.specs.List.{find, All, Contains, AllByRecursion}
use Rattle.std.specs.List.Sorted.{IsStrictlySortedBy}
use Rattle.std.specs.Map.{keys_of}
use Rattle.std.specs.Ordering.{is_lt, ordering_reverse}
use Rattle.std.specs.declared.cmp.Ordering.TheVariants.{Less}
use Rattle.std.proofs.lemmas.Cmp.{tied_itself}
use Rattle.std.proofs.lemmas.List.Elements.{Contains-push, Contains-append_left, Contains-append_right, All-nil, All-cons, All-contains}
use Rattle.enumerators.specs.declared.cursor.Cursor.TheVariants.{Idle, First, After}
use Rattle.store_model.specs.declared.name.ObjectName.{ObjectName}
use Rattle.store_model.specs.Name.{name_cmp}
use Rattle.store_model.specs.Object.{Object, ObjectMap}
use Rattle.store_model.specs.Enumerating.{is_of, is_above}
use Rattle.store_model.specs.Laws.{IsLeast, EnumeratorsGiveTheLeast}
use Rattle.store_model.proofs.Maps.{name_cmp_total}

abbrev Entry : Type 0
Entry = ObjectName × Object

-- what holds of each and of the first is no less than the first
not-less : (a b : ObjectName) → name_cmp a b ≡ Less → is_lt (name_cmp b a) ≡ false
not-less a b less = ap is_lt (name_cmp_total.antisymm b a ∙ ap ordering_reverse less)

-- the entry is no greater than each that passes
abbrev IsNoGreater : (Entry → Bool) → Entry → Entry → Type 0
IsNoGreater test entry other = test other ≡ true → is_lt (name_cmp other.0 entry.0) ≡ false

all-above : (test : Entry → Bool) (e : Entry) (m : ObjectMap) → AllByRecursion (λ n. name_cmp e.0 n ≡ Less) (keys_of m) → All (IsNoGreater test e) m
all-above test e [] below = All-nil (IsNoGreater test e)
all-above test e (x ∷ m) below = All-cons (IsNoGreater test e) x m (λ passes. not-less e.0 x.0 below.0) (all-above test e m below.1)

all-no-greater : (test : Entry → Bool) (m : ObjectMap) (entry : Entry) → IsStrictlySortedBy name_cmp (keys_of m) → find test m ≡ Some entry → All (IsNoGreater test entry) m
unfolding IsStrictlySortedBy
all-no-greater test [] entry rising is = absurd (cc (is))
all-no-greater test (e ∷ m) entry rising is = (elim (test e) as (λ c. test e ≡ c → cond c (Some e) (find test m) ≡ Some entry → All (IsNoGreater test entry) (e ∷ m)) [
  | true ↦ λ passes here.
      let same : e ≡ entry = cc (here) in
      subst (λ (x : Entry). All (IsNoGreater test x) (e ∷ m)) same
      (All-cons (IsNoGreater test e) e m (λ p. ap is_lt (tied_itself name_cmp_total e.0)) (all-above test e m rising.0))
  | false ↦ λ fails there.
      All-cons (IsNoGreater test entry) e m (λ passes. absurd (true≢false (sym passes ∙ fails))) (all-no-greater test m entry rising.1 there)
]) refl is

-- and it is one of them
held-passes : (test : Entry → Bool) (m : ObjectMap) (entry : Entry) → find test m ≡ Some entry → Contains m entry × (test entry ≡ true)
held-passes test [] entry is = absurd (cc (is))
held-passes test (e ∷ m) entry is = (elim (test e) as (λ c. test e ≡ c → cond c (Some e) (find test m) ≡ Some entry → Contains (e ∷ m) entry × (test entry ≡ true)) [
  | true ↦ λ passes here.
      let same : e ≡ entry = cc (here) in
      subst (λ (x : Entry). Contains (e ∷ m) x × (test x ≡ true)) same (Contains-append_left (e ∷ []) m e (Contains-push [] e), passes)
  | false ↦ λ fails there.
      let rest = held-passes test m entry there in
      (Contains-append_right (e ∷ []) m entry rest.0, rest.1)
]) refl is

least-found : (test : Entry → Bool) (m : ObjectMap) (entry : Entry) → IsStrictlySortedBy name_cmp (keys_of m) → find test m ≡ Some entry → IsLeast test m entry
least-found test m entry rising is =
    let found = held-passes test m entry is in
    record {
      held = found.0;
      passes = found.1;
      least = λ other held. All-contains (IsNoGreater test entry) m other (all-no-greater test m entry rising is) held;
    }

pub enumerators_give_the_least : EnumeratorsGiveTheLeast
enumerators_give_the_least objects application Idle entry is next = absurd (cc (next))
enumerators_give_the_least objects application First entry is next = least-found (is_of application) objects entry is.rising next
enumerators_give_the_least objects application (After id) entry is next = least-found (is_above application id) objects entry is.rising next
