-- Applications and names that are alike.
use Rattle.std.proofs.Common.{◌≡◌, ℕ, true, List, refl, sym, ap, ◌∙◌}
use Rattle.std.specs.Ordering.{is_eq, ordering_then}
use Rattle.std.specs.declared.cmp.Ordering.{Ordering}
use Rattle.std.specs.declared.cmp.Ordering.TheVariants.{Less, Equal, Greater}
use Rattle.std.proofs.lemmas.Cmp.{nat_list_cmp_total, tied_itself}
use Rattle.std.proofs.lemmas.Map.Text.{is_eq-slice_cmp}
use Rattle.std.proofs.lemmas.Slice.Eq.{bytes_eq-Decides}
use Rattle.tee_types.specs.Identifier.{bytes_cmp}
use Rattle.store_model.specs.declared.name.ObjectName.{ObjectName}
use Rattle.store_model.proofs.Maps.{at}

-- bytes that compare equal are the same
pub same_bytes : (xs ys : List ℕ) → is_eq (bytes_cmp xs ys) ≡ true → xs ≡ ys
same_bytes xs ys tied = (bytes_eq-Decides xs ys).0 (sym (is_eq-slice_cmp xs ys) ∙ tied)

-- an application is itself
pub itself : (app : List ℕ) → is_eq (bytes_cmp app app) ≡ true
itself app = ap is_eq (tied_itself nat_list_cmp_total app)

-- names that are alike are of one application
pub alike_apps : (a b : ObjectName) → at a b ≡ true → a.app ≡ b.app
alike_apps a b tied = same_bytes a.app b.app (first (bytes_cmp a.app b.app) (bytes_cmp a.id b.id) tied)
  where
    first : (o p : Ordering) → is_eq (ordering_then o p) ≡ true → is_eq o ≡ true
    first Less p h = h
    first Equal p h = refl
    first Greater p h = h
