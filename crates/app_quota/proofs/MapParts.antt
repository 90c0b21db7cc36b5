-- An application's part of a map after a change.
use Rattle.std.proofs.Common.{◌≡◌, ℕ, Bool, true, false, cond, ◌||◌, List, [], ◌∷◌, refl, sym, ap, ◌∙◌, Some, true≢false}
use Rattle.std.specs.declared.cmp.Ordering.TheVariants.{Less, Equal, Greater}
use Rattle.std.specs.Ordering.{is_eq}
use Rattle.std.specs.List.{list_any, find}
use Rattle.std.specs.List.Sorted.{IsStrictlySortedBy}
use Rattle.std.specs.Map.{keys_of, lookup, set_value, remove_entry}
use Rattle.std.specs.BTreeMap.{insert_entry}
use Rattle.tee_types.specs.Identifier.{bytes_cmp}
use Rattle.store_model.specs.declared.name.ObjectName.{ObjectName}
use Rattle.store_model.specs.Name.{name_cmp}
use Rattle.store_model.specs.Object.{Object, ObjectMap}
use Rattle.store_model.proofs.Maps.{at, insert_entry-less, insert_entry-equal, insert_entry-greater, IsBelow, IsBelow-trans, insert_entry-below}
use Rattle.app_totals.specs.Totals.{objects_of}
use Rattle.app_totals.proofs.Names.{alike_apps}

module _ (app : List ℕ) where
  -- the name is one of the application's
  abbrev pub own : ObjectName → Bool
  own n = is_eq (bytes_cmp app n.app)

  pub own_alike : (name n : ObjectName) (b : Bool) → own name ≡ b → at name n ≡ true → own n ≡ b
  own_alike name n b mine h = ap (λ a. is_eq (bytes_cmp app a)) (sym (alike_apps name n h)) ∙ mine

  part-at : (b : Bool) (e : ObjectName × Object) (m : ObjectMap) → own e.0 ≡ b → objects_of app (e ∷ m) ≡ cond b (e ∷ objects_of app m) (objects_of app m)
  part-at b e m h = ap (λ c. cond c (e ∷ objects_of app m) (objects_of app m)) h

  -- a test that only the application's names pass
  module _ (test : ObjectName → Bool) (mine : (n : ObjectName) → test n ≡ true → own n ≡ true) where
    missed : (n : ObjectName) → own n ≡ false → test n ≡ false
    missed n h = (elim (test n) as (λ b. test n ≡ b → b ≡ false) [ true ↦ λ hit. absurd (true≢false (sym (mine n hit) ∙ h)) | false ↦ λ miss. refl ]) refl

    pub lookup-part : (m : ObjectMap) → lookup test (objects_of app m) ≡ lookup test m
    lookup-part [] = refl
    lookup-part (e ∷ m) = (elim (own e.0) as (λ b. own e.0 ≡ b → lookup test (cond b (e ∷ objects_of app m) (objects_of app m)) ≡ cond (test e.0) (Some e.1) (lookup test m)) [
      | true ↦ λ h. ap (λ o. cond (test e.0) (Some e.1) o) (lookup-part m)
      | false ↦ λ h. lookup-part m ∙ sym (ap (λ b. cond b (Some e.1) (lookup test m)) (missed e.0 h))
    ]) refl

    pub set-part : (x : Object) (m : ObjectMap) → set_value test (objects_of app m) x ≡ objects_of app (set_value test m x)
    set-part x [] = refl
    set-part x (e ∷ m) = (elim (own e.0) as (λ b. own e.0 ≡ b → set_value test (cond b (e ∷ objects_of app m) (objects_of app m)) x ≡ objects_of app (cond (test e.0) ((e.0, x) ∷ m) (e ∷ set_value test m x))) [
      | true ↦ λ h. elim (test e.0) as (λ c. cond c ((e.0, x) ∷ objects_of app m) (e ∷ set_value test (objects_of app m) x) ≡ objects_of app (cond c ((e.0, x) ∷ m) (e ∷ set_value test m x))) [
        | true ↦ sym (part-at true (e.0, x) m h)
        | false ↦ ap (λ l. e ∷ l) (set-part x m) ∙ sym (part-at true e (set_value test m x) h)
      ]
      | false ↦ λ h. set-part x m ∙ sym (part-at false e (set_value test m x) h) ∙ ap (λ b. objects_of app (cond b ((e.0, x) ∷ m) (e ∷ set_value test m x))) (sym (missed e.0 h))
    ]) refl

    pub remove-part : (m : ObjectMap) → remove_entry test (objects_of app m) ≡ objects_of app (remove_entry test m)
    remove-part [] = refl
    remove-part (e ∷ m) = (elim (own e.0) as (λ b. own e.0 ≡ b → remove_entry test (cond b (e ∷ objects_of app m) (objects_of app m)) ≡ objects_of app (cond (test e.0) m (e ∷ remove_entry test m))) [
      | true ↦ λ h. elim (test e.0) as (λ c. cond c (objects_of app m) (e ∷ remove_entry test (objects_of app m)) ≡ objects_of app (cond c m (e ∷ remove_entry test m))) [
        | true ↦ refl
        | false ↦ ap (λ l. e ∷ l) (remove-part m) ∙ sym (part-at true e (remove_entry test m) h)
      ]
      | false ↦ λ h. remove-part m ∙ sym (part-at false e (remove_entry test m) h) ∙ ap (λ b. objects_of app (cond b m (e ∷ remove_entry test m))) (sym (missed e.0 h))
    ]) refl

  -- a test that only other applications' names pass
  module _ (test : ObjectName → Bool) (others : (n : ObjectName) → test n ≡ true → own n ≡ false) where
    pub set-other : (x : Object) (m : ObjectMap) → objects_of app (set_value test m x) ≡ objects_of app m
    set-other x [] = refl
    set-other x (e ∷ m) = (elim (test e.0) as (λ b. test e.0 ≡ b → objects_of app (cond b ((e.0, x) ∷ m) (e ∷ set_value test m x)) ≡ objects_of app (e ∷ m)) [
      | true ↦ λ h. part-at false (e.0, x) m (others e.0 h) ∙ sym (part-at false e m (others e.0 h))
      | false ↦ λ h. ap (λ l. cond (own e.0) (e ∷ l) l) (set-other x m)
    ]) refl

    pub remove-other : (m : ObjectMap) → objects_of app (remove_entry test m) ≡ objects_of app m
    remove-other [] = refl
    remove-other (e ∷ m) = (elim (test e.0) as (λ b. test e.0 ≡ b → objects_of app (cond b m (e ∷ remove_entry test m)) ≡ objects_of app (e ∷ m)) [
      | true ↦ λ h. sym (part-at false e m (others e.0 h))
      | false ↦ λ h. ap (λ l. cond (own e.0) (e ∷ l) l) (remove-other m)
    ]) refl

  below-part : (name : ObjectName) (m : ObjectMap) → IsBelow name m → IsBelow name (objects_of app m)
  below-part name [] below = tt
  below-part name (e ∷ m) below = elim (own e.0) as (λ b. IsBelow name (cond b (e ∷ objects_of app m) (objects_of app m))) [
    | true ↦ (below.0, below-part name m below.1)
    | false ↦ below-part name m below.1
  ]

  pub insert-part : (name : ObjectName) (x : Object) → own name ≡ true → (m : ObjectMap) → IsStrictlySortedBy name_cmp (keys_of m) → insert_entry name_cmp (objects_of app m) name x ≡ objects_of app (insert_entry name_cmp m name x)
  unfolding IsStrictlySortedBy
  insert-part name x mine [] sorted = sym (part-at true (name, x) [] mine)
  insert-part name x mine (e ∷ m) sorted = (elim (name_cmp name e.0) as (λ o. name_cmp name e.0 ≡ o → insert_entry name_cmp (objects_of app (e ∷ m)) name x ≡ objects_of app (insert_entry name_cmp (e ∷ m) name x)) [
    | Less ↦ λ h.
        insert_entry-below name x (objects_of app (e ∷ m)) (below-part name (e ∷ m) (h, IsBelow-trans name e.0 m h sorted.0))
        ∙ sym (part-at true (name, x) (e ∷ m) mine)
        ∙ ap (objects_of app) (sym (insert_entry-less name x e m h))
    | Equal ↦ λ h.
        let its = own_alike name e.0 true mine (ap is_eq h) in
        ap (λ l. insert_entry name_cmp l name x) (part-at true e m its)
        ∙ insert_entry-equal name x e (objects_of app m) h
        ∙ sym (part-at true (e.0, x) m its)
        ∙ ap (objects_of app) (sym (insert_entry-equal name x e m h))
    | Greater ↦ λ h.
        ((elim (own e.0) as (λ b. own e.0 ≡ b → insert_entry name_cmp (objects_of app (e ∷ m)) name x ≡ objects_of app (e ∷ insert_entry name_cmp m name x)) [
          | true ↦ λ its.
              ap (λ l. insert_entry name_cmp l name x) (part-at true e m its)
              ∙ insert_entry-greater name x e (objects_of app m) h
              ∙ ap (λ l. e ∷ l) (insert-part name x mine m sorted.1)
              ∙ sym (part-at true e (insert_entry name_cmp m name x) its)
          | false ↦ λ its.
              ap (λ l. insert_entry name_cmp l name x) (part-at false e m its)
              ∙ insert-part name x mine m sorted.1
              ∙ sym (part-at false e (insert_entry name_cmp m name x) its)
        ]) refl)
        ∙ ap (objects_of app) (sym (insert_entry-greater name x e m h))
  ]) refl

  pub insert-other : (name : ObjectName) (x : Object) → own name ≡ false → (m : ObjectMap) → objects_of app (insert_entry name_cmp m name x) ≡ objects_of app m
  insert-other name x other [] = part-at false (name, x) [] other
  insert-other name x other (e ∷ m) = (elim (name_cmp name e.0) as (λ o. name_cmp name e.0 ≡ o → objects_of app (insert_entry name_cmp (e ∷ m) name x) ≡ objects_of app (e ∷ m)) [
    | Less ↦ λ h. ap (objects_of app) (insert_entry-less name x e m h) ∙ part-at false (name, x) (e ∷ m) other
    | Equal ↦ λ h.
        let its = own_alike name e.0 false other (ap is_eq h) in
        ap (objects_of app) (insert_entry-equal name x e m h) ∙ part-at false (e.0, x) m its ∙ sym (part-at false e m its)
    | Greater ↦ λ h. ap (objects_of app) (insert_entry-greater name x e m h) ∙ ap (λ l. cond (own e.0) (e ∷ l) l) (insert-other name x other m)
  ]) refl

  -- what is looked for among the application's objects
  module _ (test : ObjectName × Object → Bool) (mine : (e : ObjectName × Object) → test e ≡ true → own e.0 ≡ true) where
    unfit : (e : ObjectName × Object) → own e.0 ≡ false → test e ≡ false
    unfit e h = (elim (test e) as (λ b. test e ≡ b → b ≡ false) [ true ↦ λ hit. absurd (true≢false (sym (mine e hit) ∙ h)) | false ↦ λ miss. refl ]) refl

    pub find-part : (m : ObjectMap) → find test (objects_of app m) ≡ find test m
    find-part [] = refl
    find-part (e ∷ m) = (elim (own e.0) as (λ b. own e.0 ≡ b → find test (cond b (e ∷ objects_of app m) (objects_of app m)) ≡ cond (test e) (Some e) (find test m)) [
      | true ↦ λ h. ap (λ o. cond (test e) (Some e) o) (find-part m)
      | false ↦ λ h. find-part m ∙ sym (ap (λ b. cond b (Some e) (find test m)) (unfit e h))
    ]) refl

    pub any-part : (m : ObjectMap) → list_any test (objects_of app m) ≡ list_any test m
    any-part [] = refl
    any-part (e ∷ m) = (elim (own e.0) as (λ b. own e.0 ≡ b → list_any test (cond b (e ∷ objects_of app m) (objects_of app m)) ≡ (test e || list_any test m)) [
      | true ↦ λ h. ap (λ o. test e || o) (any-part m)
      | false ↦ λ h. any-part m ∙ sym (ap (λ b. b || list_any test m) (unfit e h))
    ]) refl
