-- The order of names.
use Rattle.std.proofs.Common.{◌≡◌, ℕ, List, [], ◌∷◌, refl, sym, ap, ◌∙◌, true≢false}
use Rattle.std.specs.declared.cmp.Ordering.{Ordering}
use Rattle.std.specs.declared.cmp.Ordering.TheVariants.{Less, Equal, Greater}
use Rattle.std.specs.Ordering.{is_lt, is_gt, nat_cmp, ordering_then, ordering_reverse}
use Rattle.std.specs.Cmp.{IsTotalOrder}
use Rattle.std.proofs.lemmas.Cmp.{nat_list_cmp_total, on_total, then_total, ranked}
use Rattle.tee_types.specs.Identifier.{bytes_cmp}
use Rattle.store_model.specs.declared.name.ObjectName.{ObjectName}
use Rattle.store_model.specs.Name.{name_cmp}

pub total : IsTotalOrder name_cmp
total = then_total (on_total (λ n. n.app) nat_list_cmp_total) (on_total (λ n. n.id) nat_list_cmp_total)

-- from either side
pub turned : (a b : ObjectName) (o : Ordering) → name_cmp a b ≡ o → name_cmp b a ≡ ordering_reverse o
turned a b o h = total.antisymm b a ∙ ap ordering_reverse h

pub bytes_turned : (a b : List ℕ) (o : Ordering) → bytes_cmp a b ≡ o → bytes_cmp b a ≡ ordering_reverse o
bytes_turned a b o h = nat_list_cmp_total.antisymm b a ∙ ap ordering_reverse h

-- the three answers differ
pub less_not_equal : Less ≡ Equal → ⊥
less_not_equal h = true≢false (ap is_lt h)

pub less_not_greater : Less ≡ Greater → ⊥
less_not_greater h = true≢false (ap is_lt h)

pub greater_not_equal : Greater ≡ Equal → ⊥
greater_not_equal h = true≢false (ap is_gt h)

-- what compares equal is the same
pub equal_bytes : (xs ys : List ℕ) → bytes_cmp xs ys ≡ Equal → xs ≡ ys
equal_bytes [] [] h = refl
equal_bytes [] (y ∷ ys) h = absurd (less_not_equal h)
equal_bytes (x ∷ xs) [] h = absurd (greater_not_equal h)
equal_bytes (x ∷ xs) (y ∷ ys) h = (elim (nat_cmp x y) as (λ o. nat_cmp x y ≡ o → ordering_then o (bytes_cmp xs ys) ≡ Equal → x ∷ xs ≡ y ∷ ys) [
  | Less ↦ λ is h. absurd (less_not_equal h)
  | Equal ↦ λ is h i. ranked x y Equal (sym is) i ∷ equal_bytes xs ys h i
  | Greater ↦ λ is h. absurd (greater_not_equal h)
]) refl h

by_both : (a b : ObjectName) (o : Ordering) → bytes_cmp a.app b.app ≡ o → ordering_then o (bytes_cmp a.id b.id) ≡ Equal → a ≡ b
by_both a b Less is h = absurd (less_not_equal h)
by_both a b Equal is h = λ i. record { app = equal_bytes a.app b.app is i; id = equal_bytes a.id b.id h i }
by_both a b Greater is h = absurd (greater_not_equal h)

pub equal_names : (a b : ObjectName) → name_cmp a b ≡ Equal → a ≡ b
equal_names a b h = by_both a b (bytes_cmp a.app b.app) refl h
