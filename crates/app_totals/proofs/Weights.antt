-- What the objects of a map weigh together, and how a change of the map moves that.
use Rattle.std.proofs.Common.{◌≡◌, ◌+◌, ◌≤◌, ℕ, Bool, true, false, true≢false, cond, List, [], ◌∷◌, refl, sym, ap, ◌∙◌, Some, None, is_some, arith}
use Rattle.std.specs.Prelude.{sum_by}
use Rattle.std.specs.Ordering.{is_eq, match_ordering}
use Rattle.std.specs.declared.cmp.Ordering.TheVariants.{Less, Equal, Greater}
use Rattle.std.specs.Map.{keys_of, remove_entry}
use Rattle.std.specs.List.Sorted.{IsStrictlySortedBy}
use Rattle.std.proofs.lemmas.List.Sums.{sum_by-cons, length-filter}
use Rattle.tee_types.specs.Identifier.{bytes_cmp}
use Rattle.store_model.specs.declared.name.ObjectName.{ObjectName}
use Rattle.store_model.specs.Name.{name_cmp}
use Rattle.store_model.specs.Object.{Object, ObjectMap, size_of, object_at, holds, with_object, without_object, changed_object}
use Rattle.store_model.specs.Enumerating.{is_of}
use Rattle.store_model.proofs.Maps.{at, IsBelow, IsBelow-trans, insert_entry-equal, insert_entry-greater}
use Rattle.app_totals.specs.Totals.{objects_of, data_bytes, totals_of}
use Rattle.app_totals.proofs.Names.{alike_apps}

-- what an object weighs, by its name and its size
abbrev pub Weight : Type 0
Weight = ObjectName × Object → ℕ

-- names that are alike weigh alike
abbrev pub IsByName : Weight → Type 0
IsByName w = (a b : ObjectName) (x : Object) → at a b ≡ true → w (a, x) ≡ w (b, x)

-- what is below each name of a map is not in it
below-none : (name : ObjectName) (m : ObjectMap) → IsBelow name m → object_at m name ≡ None
below-none name [] below = refl
below-none name (e ∷ m) below = ap (λ o. cond (is_eq o) (Some e.1) (object_at m name)) below.0 ∙ below-none name m below.1

-- an object that takes the place of another one stands where that stood
pub with-held : (name : ObjectName) (x old : Object) (m : ObjectMap) → IsStrictlySortedBy name_cmp (keys_of m) → object_at m name ≡ Some old → with_object m name x ≡ changed_object m name x
unfolding IsStrictlySortedBy
with-held name x old [] rising found = absurd (cc (found))
with-held name x old (e ∷ m) rising found = (elim (name_cmp name e.0) as (λ o. name_cmp name e.0 ≡ o → cond (is_eq o) (Some e.1) (object_at m name) ≡ Some old → with_object (e ∷ m) name x ≡ cond (is_eq o) ((e.0, x) ∷ m) (e ∷ changed_object m name x)) [
  | Less ↦ λ h there.
      let none : object_at m name ≡ None = below-none name m (IsBelow-trans name e.0 m h rising.0) in
      let both : Some old ≡ None = sym there ∙ none in
      absurd (cc (both))
  | Equal ↦ λ h _. insert_entry-equal name x e m h
  | Greater ↦ λ h there. insert_entry-greater name x e m h ∙ ap (λ l. e ∷ l) (with-held name x old m rising.1 there)
]) refl found

module _ (w : Weight) (by_name : IsByName w) where
  more : (e : ObjectName × Object) (m : ObjectMap) → sum_by w (e ∷ m) ≡ w e + sum_by w m
  more e m = sum_by-cons w e m

  -- an object is another one
  pub weigh-changed : (name : ObjectName) (old x : Object) (m : ObjectMap) → object_at m name ≡ Some old → sum_by w (changed_object m name x) + w (name, old) ≡ sum_by w m + w (name, x)
  weigh-changed name old x [] found = absurd (cc (found))
  weigh-changed name old x (e ∷ m) found = (elim (at name e.0) as (λ b. at name e.0 ≡ b → cond b (Some e.1) (object_at m name) ≡ Some old
      → sum_by w (cond b ((e.0, x) ∷ m) (e ∷ changed_object m name x)) + w (name, old) ≡ sum_by w (e ∷ m) + w (name, x)) [
        | true ↦ λ hit is.
            let same : e.1 ≡ old = cc (is) in
            let was : w (name, old) ≡ w e = by_name name e.0 old hit ∙ ap (λ (y : Object). w (e.0, y)) (sym same) in
            let now = by_name name e.0 x hit in
            let one = more (e.0, x) m in
            let other = more e m in
            omega (arith, was, now, one, other)
        | false ↦ λ miss is.
            let rest = weigh-changed name old x m is in
            let one = more e (changed_object m name x) in
            let other = more e m in
            omega (arith, rest, one, other)
      ]) refl found

  -- an object comes under a name that none has
  pub weigh-with : (name : ObjectName) (x : Object) (m : ObjectMap) → holds m name ≡ false → sum_by w (with_object m name x) ≡ sum_by w m + w (name, x)
  weigh-with name x [] free = let one = more (name, x) [] in omega (arith, one)
  weigh-with name x (e ∷ m) free = (elim (name_cmp name e.0) as (λ o. name_cmp name e.0 ≡ o → is_some (cond (is_eq o) (Some e.1) (object_at m name)) ≡ false
      → sum_by w (match_ordering o ((name, x) ∷ e ∷ m) ((e.0, x) ∷ m) (e ∷ with_object m name x)) ≡ sum_by w (e ∷ m) + w (name, x)) [
        | Less ↦ λ h _. let one = more (name, x) (e ∷ m) in omega (arith, one)
        | Equal ↦ λ h held. absurd (true≢false held)
        | Greater ↦ λ h off.
            let rest = weigh-with name x m off in
            let one = more e (with_object m name x) in
            let other = more e m in
            omega (arith, rest, one, other)
      ]) refl free

  -- an object goes
  pub weigh-without : (name : ObjectName) (old : Object) (m : ObjectMap) → object_at m name ≡ Some old → sum_by w (without_object m name) + w (name, old) ≡ sum_by w m
  weigh-without name old [] found = absurd (cc (found))
  weigh-without name old (e ∷ m) found = (elim (at name e.0) as (λ b. at name e.0 ≡ b → cond b (Some e.1) (object_at m name) ≡ Some old
      → sum_by w (cond b m (e ∷ without_object m name)) + w (name, old) ≡ sum_by w (e ∷ m)) [
        | true ↦ λ hit is.
            let same : e.1 ≡ old = cc (is) in
            let was : w (name, old) ≡ w e = by_name name e.0 old hit ∙ ap (λ (y : Object). w (e.0, y)) (sym same) in
            let other = more e m in
            omega (arith, was, other)
        | false ↦ λ miss is.
            let rest = weigh-without name old m is in
            let one = more e (without_object m name) in
            let other = more e m in
            omega (arith, rest, one, other)
      ]) refl found

  pub weigh-without-le : (test : ObjectName → Bool) (m : ObjectMap) → sum_by w (remove_entry test m) ≤ sum_by w m
  weigh-without-le test [] = omega arith
  weigh-without-le test (e ∷ m) =
      let rest = weigh-without-le test m in
      let other = more e m in
      elim (test e.0) as (λ b. sum_by w (cond b m (e ∷ remove_entry test m)) ≤ sum_by w (e ∷ m)) [
        | true ↦ omega (arith, other)
        | false ↦ let one = more e (remove_entry test m) in omega (arith, rest, one, other)
      ]

-- an application's objects, and their bytes
module _ (app : List ℕ) where
  abbrev pub one_of : Weight
  one_of e = cond (is_of app e) 1 0

  abbrev pub bytes_in : Weight
  bytes_in e = cond (is_of app e) (size_of e.1) 0

  pub one_of-by_name : IsByName one_of
  one_of-by_name a b x tied = ap (λ (o : List ℕ). cond (is_eq (bytes_cmp app o)) 1 0) (alike_apps a b tied)

  pub bytes_in-by_name : IsByName bytes_in
  bytes_in-by_name a b x tied = ap (λ (o : List ℕ). cond (is_eq (bytes_cmp app o)) (size_of x) 0) (alike_apps a b tied)

  bytes-weigh : (m : ObjectMap) → data_bytes (objects_of app m) ≡ sum_by bytes_in m
  bytes-weigh [] = refl
  bytes-weigh (e ∷ m) =
      (elim (is_of app e) as (λ b. data_bytes (cond b (e ∷ objects_of app m) (objects_of app m)) ≡ cond b (size_of e.1) 0 + sum_by bytes_in m) [
        | true ↦ sum_by-cons (λ (y : ObjectName × Object). size_of y.1) e (objects_of app m) ∙ ap (λ n. size_of e.1 + n) (bytes-weigh m)
        | false ↦ let rest = bytes-weigh m in omega (arith, rest)
      ])
      ∙ sym (sum_by-cons bytes_in e m)

  pub totals-weigh : (m : ObjectMap) → totals_of app m ≡ record { objects = sum_by one_of m; bytes = sum_by bytes_in m }
  totals-weigh m k = record { objects = length-filter (is_of app) m k; bytes = bytes-weigh m k }
