-- One test of names: the order's, and the one that each byte is the same.
use Rattle.std.proofs.Common.{◌≡◌, ◌∙◌, ◌&&◌, ◌<◌, ℕ, Bool, true, false, List, [], ◌∷◌, refl, sym, ap, subst, is_eq}
use Rattle.std.specs.declared.cmp.Ordering.{Ordering}
use Rattle.std.specs.declared.cmp.Ordering.TheVariants.{Less, Equal, Greater}
use Rattle.std.specs.Ordering.{MatchOrdering, nat_cmp, ordering_then}
use Rattle.std.specs.Cmp.Lexicographic.{slice_cmp}
use Rattle.std.specs.Str.{bytes_eq}
use Rattle.std.proofs.lemmas.Bool.{and_parts}
use Rattle.std.proofs.lemmas.Cmp.{ranked}
use Rattle.htree_file.proofs.SameBytes.{same_from, same_is}
use Rattle.store_model.specs.declared.name.ObjectName.{ObjectName}
use Rattle.store_model.specs.Name.{name_cmp, name_eq}
use Rattle.crash_core.proofs.EntryMaps.{self}

is_tied : (o : Ordering) → is_eq o ≡ true → o ≡ Equal
is_tied Less h = absurd (cc (h))
is_tied Equal h = refl
is_tied Greater h = absurd (cc (h))

then_tied : (a b : Ordering) → ordering_then a b ≡ Equal → (a ≡ Equal) × (b ≡ Equal)
then_tied Less b h = absurd (cc (h))
then_tied Equal b h = (refl, h)
then_tied Greater b h = absurd (cc (h))

tied_number : (x y : ℕ) → nat_cmp x y ≡ Equal → x ≡ y
tied_number x y h = subst (λ (o : Ordering). MatchOrdering o (x < y) (x ≡ y) (y < x)) h (ranked x y (nat_cmp x y) refl)

tied_bytes : (xs ys : List ℕ) → slice_cmp nat_cmp xs ys ≡ Equal → xs ≡ ys
tied_bytes [] [] h = refl
tied_bytes [] (y ∷ ys) h = absurd (cc (h))
tied_bytes (x ∷ xs) [] h = absurd (cc (h))
tied_bytes (x ∷ xs) (y ∷ ys) h =
    let both = then_tied (nat_cmp x y) (slice_cmp nat_cmp xs ys) h in
    λ i. tied_number x y both.0 i ∷ tied_bytes xs ys both.1 i

-- names that are alike are one
pub alike_is : (a b : ObjectName) → is_eq (name_cmp a b) ≡ true → a ≡ b
alike_is a b alike =
    let both = then_tied (slice_cmp nat_cmp a.app b.app) (slice_cmp nat_cmp a.id b.id) (is_tied (name_cmp a b) alike) in
    λ i. record { app = tied_bytes a.app b.app both.0 i; id = tied_bytes a.id b.id both.1 i }

equal_is : (a b : ObjectName) → name_eq a b ≡ true → a ≡ b
equal_is a b same =
    let both = and_parts (bytes_eq a.app b.app) (bytes_eq a.id b.id) same in
    λ i. record { app = same_is a.app b.app both.0 i; id = same_is a.id b.id both.1 i }

one_test : (a b : Bool) → (a ≡ true → b ≡ true) → (b ≡ true → a ≡ true) → a ≡ b
one_test true b to from = sym (to refl)
one_test false true to from = from refl
one_test false false to from = refl

-- The test by the order is the test by the bytes.
pub name_test : (a b : ObjectName) → is_eq (name_cmp a b) ≡ name_eq a b
name_test a b = one_test (is_eq (name_cmp a b)) (name_eq a b)
    (λ alike. ap (λ (x : ObjectName). name_eq a x) (sym (alike_is a b alike)) ∙ ap (λ (s : Bool). s && bytes_eq a.id a.id) (same_from a.app a.app refl) ∙ same_from a.id a.id refl)
    (λ same. ap (λ (x : ObjectName). is_eq (name_cmp a x)) (sym (equal_is a b same)) ∙ ap is_eq (self a))
