-- What objects weigh by their applications and sizes is what their entries weigh.
use Rattle.std.proofs.Common.{◌≡◌, ◌+◌, ◌<◌, ℕ, zero, suc, true, cond, List, [], ◌∷◌, length, get_or, Option, Some, None, refl, sym, ap, ◌∙◌, subst, is_eq, arith}
use Rattle.std.specs.Prelude.{slice_set, sum_by}
use Rattle.std.proofs.lemmas.Bool.{cond-true}
use Rattle.std.proofs.lemmas.List.Sums.{sum_by-cons, sum_by-set}
use Rattle.tee_types.specs.Identifier.{bytes_cmp}
use Rattle.store_model.specs.Object.{Object, ObjectMap, object_at, size_of}
use Rattle.store_model.proofs.Maps.{at, remove_entry-at}
use Rattle.store_model.proofs.MapLaws.{object_at-tied}
use Rattle.dir_records.specs.declared.entry.DirEntry.{DirEntry}
use Rattle.app_totals.specs.EntryTotals.{is_entry_of, bytes_by}
use Rattle.app_totals.proofs.Weights.{Weight, IsByName, one_of, bytes_in, one_of-by_name, bytes_in-by_name, totals-weigh}
use Rattle.core_laws.specs.Entries.{name_of}
use Rattle.core_laws.specs.EntryLists.{AreDistinct}
use Rattle.core_laws.proofs.EntryMaps.{self}
use Rattle.call_rules.specs.Shapes.{HasShape}
use Rattle.call_rules.specs.ShapeLaws.{TotalsAreOfEntries}
use Rattle.call_rules.proofs.ChangedShapes.{cleared_shape, distinct-cleared}

stood_below : {A : Type 0} (xs : List (Option A)) (k : ℕ) (a : A) → get_or xs k None ≡ Some a → k < length xs
stood_below [] k a is = absurd (cc (is))
stood_below (x ∷ xs) zero a is = omega arith
stood_below (x ∷ xs) (suc k) a is = let rest = stood_below xs k a is in omega (arith, rest)

-- an entry weighs what its object does, and a free place nothing
module _ (w : Weight) (by_name : IsByName w) (v : Option DirEntry → ℕ) (free : v None ≡ 0) (agrees : (e : DirEntry) (x : Object) → size_of x ≡ e.size → v (Some e) ≡ w (name_of e, x)) where
  weigh_none : (entries : List (Option DirEntry)) → ((n : ℕ) (e : DirEntry) → get_or entries n None ≡ Some e → ⊥) → sum_by v entries ≡ 0
  weigh_none [] none = refl
  weigh_none (None ∷ entries) none =
      let rest = weigh_none entries (λ n e is. none (suc n) e is) in
      let one = sum_by-cons v None entries in
      omega (arith, rest, one, free)
  weigh_none (Some e ∷ entries) none = absurd (none 0 e refl)

  weigh-cleared : (entries : List (Option DirEntry)) (k : ℕ) (e : DirEntry) → get_or entries k None ≡ Some e → sum_by v entries ≡ v (Some e) + sum_by v (slice_set entries k None)
  weigh-cleared entries k e is =
      let more = sum_by-set v entries k None None (stood_below entries k e is) in
      let here : v (get_or entries k None) ≡ v (Some e) = ap v is in
      omega (arith, more, here, free)

  pub weigh_shape : (objects : ObjectMap) (entries : List (Option DirEntry)) → AreDistinct entries → HasShape entries objects → sum_by w objects ≡ sum_by v entries
  weigh_shape [] entries distinct shape =
      sym (weigh_none entries (λ n e stood. let none : ◌≡◌ {A = Option Object} None (Some (shape.each n e stood).0) = (shape.each n e stood).1 in absurd (cc (none))))
  weigh_shape (x ∷ objects) entries distinct shape =
      let here : object_at (x ∷ objects) x.0 ≡ Some x.1 = cond-true (at x.0 x.0) (Some x.1) (object_at objects x.0) (ap is_eq (self x.0)) in
      let listed = shape.back x.0 x.1 here in
      let e = listed.1 in
      let bare : List (Option DirEntry) = slice_set entries listed.0 None in
      let rest : HasShape bare objects =
      subst (HasShape bare) (remove_entry-at true (at x.0) x objects (ap is_eq (self x.0)))
      (cleared_shape entries (x ∷ objects) listed.0 e x.0 listed.2 listed.3 distinct shape) in
      let before : sum_by w objects ≡ sum_by v bare = weigh_shape objects bare (distinct-cleared entries listed.0 distinct) rest in
      let more : sum_by v entries ≡ v (Some e) + sum_by v bare = weigh-cleared entries listed.0 e listed.2 in
      let its = shape.each listed.0 e listed.2 in
      let there : ◌≡◌ {A = Option Object} (Some x.1) (Some its.0) = sym here ∙ object_at-tied (x ∷ objects) x.0 (name_of e) listed.3 ∙ its.1 in
      let object : x.1 ≡ its.0 = cc (there) in
      let one : w x ≡ v (Some e) = by_name x.0 (name_of e) x.1 listed.3 ∙ sym (agrees e x.1 (ap size_of object ∙ its.2)) in
      let first = sum_by-cons w x objects in
      omega (arith, before, more, one, first)

pub totals_entries : TotalsAreOfEntries
totals_entries entries objects app distinct shape = totals-weigh app objects ∙ (λ k. record { objects = count k; bytes = bytes k })
  where
    count : sum_by (one_of app) objects ≡ sum_by (λ e. cond (is_entry_of app e) 1 0) entries
    count = weigh_shape (one_of app) (one_of-by_name app) (λ e. cond (is_entry_of app e) 1 0) refl (λ e x size. refl) objects entries distinct shape

    bytes : sum_by (bytes_in app) objects ≡ sum_by (bytes_by app) entries
    bytes =
        weigh_shape (bytes_in app) (bytes_in-by_name app) (bytes_by app) refl
        (λ e x size. ap (λ (n : ℕ). cond (is_eq (bytes_cmp app e.app)) n 0) (sym size)) objects entries distinct shape
