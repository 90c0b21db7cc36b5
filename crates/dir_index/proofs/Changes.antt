-- What is held under each name after a change.
use Rattle.std.proofs.Common.{◌≡◌, ℕ, Bool, true, false, cond, [], ◌∷◌, refl, sym, ap, ◌∙◌, Some, None, true≢false, if◌then◌else◌}
use Rattle.std.specs.declared.cmp.Ordering.TheVariants.{Less, Equal, Greater}
use Rattle.std.specs.Ordering.{is_eq, match_ordering}
use Rattle.std.specs.Map.{keys_of, lookup}
use Rattle.std.specs.BTreeMap.{insert_entry}
use Rattle.std.proofs.lemmas.Cmp.{alike_right, eq_by_cmp_equiv}
use Rattle.std.proofs.lemmas.Map.{lookup-remove_entry}
use Rattle.std.proofs.lemmas.Map.Keys.{IsDistinct-from_sorted}
use Rattle.store_model.specs.declared.name.ObjectName.{ObjectName}
use Rattle.store_model.specs.Name.{name_cmp}
use Rattle.dir_index.specs.Index.{IndexEntries, IndexState, IsOrdered, index_at, with_index, without_name}
use Rattle.dir_index.proofs.Names.{total, equal_names}
use Rattle.dir_index.proofs.Places.{at}

-- the first of two tests that are alike decides
cond_twice : {X : Type 0} (a : Bool) (x y z : X) → cond a x (cond a y z) ≡ cond a x z
cond_twice true x y z = refl
cond_twice false x y z = refl

-- two tests that are not true together may be made in either order
cond_apart : {X : Type 0} (a b : Bool) (x y z : X) → (a ≡ true → b ≡ true → ⊥) → cond a x (cond b y z) ≡ cond b y (cond a x z)
cond_apart true true x y z apart = absurd (apart refl refl)
cond_apart true false x y z apart = refl
cond_apart false b x y z apart = refl

alike : (a b : ObjectName) → at a b ≡ true → name_cmp a b ≡ Equal
alike a b h = (elim (name_cmp a b) as (λ o. is_eq o ≡ true → o ≡ Equal) [
  | Less ↦ λ h. absurd (true≢false (sym h))
  | Equal ↦ λ h. refl
  | Greater ↦ λ h. absurd (true≢false (sym h))
]) h

pub lookup_inserted : (es : IndexEntries) (name : ObjectName) (index : ℕ) (other : ObjectName) → lookup (at other) (insert_entry name_cmp es name index) ≡ cond (at other name) (Some index) (lookup (at other) es)
lookup_inserted [] name index other = refl
lookup_inserted (e ∷ es) name index other = (elim (name_cmp name e.0) as (λ o. name_cmp name e.0 ≡ o → lookup (at other) (match_ordering o ((name, index) ∷ e ∷ es) ((e.0, index) ∷ es) (e ∷ insert_entry name_cmp es name index)) ≡ cond (at other name) (Some index) (lookup (at other) (e ∷ es))) [
  | Less ↦ λ is. refl
  | Equal ↦ λ is.
      let same = ap is_eq (alike_right total name e.0 other is) in
      ap (λ b. cond b (Some index) (lookup (at other) es)) (sym same)
      ∙ sym (ap (λ b. cond (at other name) (Some index) (cond b (Some e.1) (lookup (at other) es))) (sym same) ∙ cond_twice (at other name) (Some index) (Some e.1) (lookup (at other) es))
  | Greater ↦ λ is.
      ap (λ found. cond (at other e.0) (Some e.1) found) (lookup_inserted es name index other)
      ∙ cond_apart (at other e.0) (at other name) (Some e.1) (Some index) (lookup (at other) es)
      (λ here there.
      let first = equal_names other e.0 (alike other e.0 here) in
      let second = equal_names other name (alike other name there) in
      true≢false (sym (ap is_eq (sym (ap (λ n. name_cmp n e.0) second) ∙ alike other e.0 here)) ∙ ap is_eq is))
]) refl

pub inserted : (s t : IndexState) (name : ObjectName) (index : ℕ) → t.entries ≡ with_index s.entries name index → (other : ObjectName) → index_at t other ≡ (if is_eq (name_cmp other name) then Some index else index_at s other)
inserted s t name index is other = ap (lookup (at other)) is ∙ lookup_inserted s.entries name index other

pub removed : (s t : IndexState) (name : ObjectName) → IsOrdered s → t.entries ≡ without_name s.entries name → (other : ObjectName) → index_at t other ≡ (if is_eq (name_cmp other name) then None else index_at s other)
removed s t name ordered is other =
    let laws = eq_by_cmp_equiv total in
    ap (lookup (at other)) is
    ∙ lookup-remove_entry laws (at name) (λ x y h. ap (λ n. at n y) (equal_names name x (alike name x h))) other s.entries (IsDistinct-from_sorted name_cmp (keys_of s.entries) ordered)
    ∙ ap (λ b. cond b None (index_at s other)) (laws.symm name other)
