-- Room for another object, by the count of the entries.
use Rattle.std.proofs.Common.{◌≡◌, ◌<◌, ◌≤◌, ◌&&◌, ℕ, zero, suc, Bool, true, false, not, List, [], ◌∷◌, length, get_or, is_some, Option, Some, None, refl, ap, ◌∙◌, arith}
use Rattle.std.specs.Prelude.{IsSome, nat_le}
use Rattle.std.specs.List.{count_by}
use Rattle.std.proofs.lemmas.Bool.Decides.{nat_tests}
use Rattle.std.proofs.lemmas.List.Sums.{count_by-le-length}
use Rattle.store_model.specs.declared.name.ObjectName.{ObjectName}
use Rattle.store_model.specs.Object.{ObjectMap, holds, most_objects}
use Rattle.store_model.specs.Handles.{lacks_room}
use Rattle.dir_records.specs.declared.entry.DirEntry.{DirEntry}
use Rattle.core_laws.specs.EntryLists.{AreDistinct, entry_at}
use Rattle.call_rules.specs.Shapes.{HasShape}
use Rattle.call_rules.specs.ShapeLaws.{ObjectsFitEntries}
use Rattle.call_rules.proofs.CountedShapes.{count-free, count-taken, count_shape}

count_full : {A : Type 0} (xs : List (Option A)) → ((n : ℕ) → n < length xs → IsSome (get_or xs n None)) → count_by is_some xs ≡ length xs
count_full [] each = refl
count_full (None ∷ xs) each = absurd (cc (each 0 (omega arith)))
count_full (Some x ∷ xs) each =
    let rest : count_by is_some xs ≡ length xs = count_full xs (λ n lt. each (suc n) (omega (arith, lt))) in
    let more = count-taken x xs in
    omega (arith, rest, more)

-- where a place is free not every one is counted
count_less : {A : Type 0} (xs : List (Option A)) (k : ℕ) → k < length xs → get_or xs k None ≡ None → count_by is_some xs < length xs
count_less [] k lt none = absurd (omega (arith, lt))
count_less {A = A} (None ∷ xs) k lt none =
    let few = count_by-le-length {X = Option A} is_some xs in
    let more = count-free xs in
    omega (arith, few, more)
count_less (Some x ∷ xs) zero lt none = absurd (cc (none))
count_less (Some x ∷ xs) (suc k) lt none =
    let rest : count_by is_some xs < length xs = count_less xs k (omega (arith, lt)) none in
    let more = count-taken x xs in
    omega (arith, rest, more)

-- no more objects than places of entries
pub objects_fit : ObjectsFitEntries
objects_fit entries objects distinct shape =
    let counted = count_shape objects entries distinct shape in
    let few = count_by-le-length is_some entries in
    omega (arith, counted, few)

not-le : (n : ℕ) → n < 256 → nat_le 256 n ≡ false
not-le n lt = grind (arith, nat_tests)

is-le : (n : ℕ) → 256 ≤ n → nat_le 256 n ≡ true
is-le n le = grind (arith, nat_tests)

pub and-false : (b : Bool) → b && false ≡ false
and-false true = refl
and-false false = refl

pub and-true : (b : Bool) → b && true ≡ b
and-true true = refl
and-true false = refl

-- where an entry is free there is room
pub free_room : (entries : List (Option DirEntry)) (objects : ObjectMap) (name : ObjectName) (index : ℕ) → length entries ≡ most_objects → AreDistinct entries
    → HasShape entries objects → index < length entries → entry_at entries index ≡ None → lacks_room objects name ≡ false
free_room entries objects name index long distinct shape lt free =
    let counted = count_shape objects entries distinct shape in
    let less = count_less entries index lt free in
    ap (λ (b : Bool). not (holds objects name) && b) (not-le (length objects) (omega (arith, counted, less, long))) ∙ and-false (not (holds objects name))

-- where none is, there is room only for a name that is held
pub full_room : (entries : List (Option DirEntry)) (objects : ObjectMap) (name : ObjectName) → length entries ≡ most_objects → AreDistinct entries
    → HasShape entries objects → ((index : ℕ) → index < length entries → IsSome (entry_at entries index)) → lacks_room objects name ≡ not (holds objects name)
full_room entries objects name long distinct shape each =
    let counted = count_shape objects entries distinct shape in
    let full = count_full entries each in
    ap (λ (b : Bool). not (holds objects name) && b) (is-le (length objects) (omega (arith, counted, full, long))) ∙ and-true (not (holds objects name))
