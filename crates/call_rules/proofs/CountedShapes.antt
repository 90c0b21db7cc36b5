-- How many objects there are: as many as entries that are not free.
use Rattle.std.proofs.Common.{◌≡◌, ◌+◌, ℕ, zero, suc, true, cond, List, [], ◌∷◌, length, get_or, is_some, Option, Some, None, refl, sym, ap, ◌∙◌, subst, is_eq, arith}
use Rattle.std.specs.Prelude.{slice_set}
use Rattle.std.specs.List.{count_by}
use Rattle.std.proofs.lemmas.Bool.{cond-true}
use Rattle.std.proofs.lemmas.List.Sums.{sum_by-cons}
use Rattle.store_model.specs.Object.{Object, ObjectMap, object_at}
use Rattle.store_model.proofs.Maps.{at, remove_entry-at}
use Rattle.dir_records.specs.declared.entry.DirEntry.{DirEntry}
use Rattle.core_laws.specs.EntryLists.{AreDistinct}
use Rattle.core_laws.proofs.EntryMaps.{self}
use Rattle.call_rules.specs.Shapes.{HasShape}
use Rattle.call_rules.specs.ShapeLaws.{ObjectsAreEntries}
use Rattle.call_rules.proofs.ChangedShapes.{cleared_shape, distinct-cleared}

-- a free place is not counted, and another one is
pub count-free : {A : Type 0} (xs : List (Option A)) → count_by is_some (None ∷ xs) ≡ count_by is_some xs
count-free {A = A} xs = let more = sum_by-cons (λ (y : Option A). cond (is_some y) 1 0) None xs in omega (arith, more)

pub count-taken : {A : Type 0} (x : A) (xs : List (Option A)) → count_by is_some (Some x ∷ xs) ≡ 1 + count_by is_some xs
count-taken {A = A} x xs = sum_by-cons (λ (y : Option A). cond (is_some y) 1 0) (Some x) xs

count_none : {A : Type 0} (xs : List (Option A)) → ((n : ℕ) (a : A) → get_or xs n None ≡ Some a → ⊥) → count_by is_some xs ≡ 0
count_none [] none = refl
count_none (None ∷ xs) none = count-free xs ∙ count_none xs (λ n a is. none (suc n) a is)
count_none (Some a ∷ xs) none = absurd (none 0 a refl)

count-cleared : {A : Type 0} (xs : List (Option A)) (k : ℕ) (a : A) → get_or xs k None ≡ Some a → count_by is_some xs ≡ 1 + count_by is_some (slice_set xs k None)
count-cleared [] k a is = absurd (cc (is))
count-cleared (None ∷ xs) zero a is = absurd (cc (is))
count-cleared (Some x ∷ xs) zero a is = count-taken x xs ∙ ap (λ (n : ℕ). 1 + n) (sym (count-free xs))
count-cleared (None ∷ xs) (suc k) a is = count-free xs ∙ count-cleared xs k a is ∙ ap (λ (n : ℕ). 1 + n) (sym (count-free (slice_set xs k None)))
count-cleared (Some x ∷ xs) (suc k) a is = count-taken x xs ∙ ap (λ (n : ℕ). 1 + n) (count-cleared xs k a is ∙ sym (count-taken x (slice_set xs k None)))

pub count_shape : (objects : ObjectMap) (entries : List (Option DirEntry)) → AreDistinct entries → HasShape entries objects → length objects ≡ count_by is_some entries
count_shape [] entries distinct shape =
    sym (count_none entries (λ n e stood. let none : ◌≡◌ {A = Option Object} None (Some (shape.each n e stood).0) = (shape.each n e stood).1 in absurd (cc (none))))
count_shape (x ∷ objects) entries distinct shape =
    let here : object_at (x ∷ objects) x.0 ≡ Some x.1 = cond-true (at x.0 x.0) (Some x.1) (object_at objects x.0) (ap is_eq (self x.0)) in
    let listed = shape.back x.0 x.1 here in
    let bare : List (Option DirEntry) = slice_set entries listed.0 None in
    let rest : HasShape bare objects =
    subst (HasShape bare) (remove_entry-at true (at x.0) x objects (ap is_eq (self x.0)))
    (cleared_shape entries (x ∷ objects) listed.0 listed.1 x.0 listed.2 listed.3 distinct shape) in
    let before : length objects ≡ count_by is_some bare = count_shape objects bare (distinct-cleared entries listed.0 distinct) rest in
    let more : count_by is_some entries ≡ 1 + count_by is_some bare = count-cleared entries listed.0 listed.1 listed.2 in
    omega (arith, before, more)

pub objects_entries : ObjectsAreEntries
objects_entries entries objects distinct shape = count_shape objects entries distinct shape
