-- The nodes that a stage writes.
use Rattle.std.proofs.Common.{◌≡◌, ◌↔◌, inl, inr, ℕ, zero, suc, ◌+◌, ◌-◌, ◌/◌, ◌<◌, ◌≤◌, List, length, slice_index, Bool, true, false, IsTrue, cond, sym, ◌∙◌, ap, subst, refl, arith}
use Rattle.std.proofs.lemmas.Bool.{cases_lt, false≢true}
use Rattle.tree_paths.specs.Staged.{IsStaged, count_to}
use Rattle.tree_paths.proofs.Halving.{on_path_here, on_path_up}

-- with each node there is the one above it
pub staged_up : (changed : List ℕ) (before after n : ℕ) → 2 ≤ n → IsStaged changed before after n → IsStaged changed before after (n / 2)
staged_up changed before after n more (inl root) = absurd (omega arith)
staged_up changed before after n more (inr (inl touched)) = inr (inl (record {
  place = touched.place;
  below = touched.below;
  path = on_path_up n (slice_index changed touched.place + 1) touched.path more;
}))
staged_up changed before after n more (inr (inr above)) = inr (inr (record {
  child = above.child;
  gone = above.gone;
  was = above.was;
  remains = above.remains;
  path = on_path_up n (above.child / 2) above.path more;
}))

-- there is the node of each changed block
pub staged_block : (changed : List ℕ) (before after place : ℕ) → place < length changed → IsStaged changed before after (slice_index changed place + 1)
staged_block changed before after place below =
    inr (inl (record { place = place; below = below; path = on_path_here (slice_index changed place + 1) (omega arith) }))

-- there is the remaining parent of each node that goes away
pub staged_parent : (changed : List ℕ) (before after child : ℕ) → 1 ≤ after → after < child → child ≤ before → child / 2 ≤ after → IsStaged changed before after (child / 2)
staged_parent changed before after child some gone was remains =
    inr (inr (record { child = child; gone = gone; was = was; remains = remains; path = on_path_here (child / 2) (omega arith) }))

-- A set of these nodes, where each new block is a changed one.
module _ (changed : List ℕ) (before after : ℕ) (set : ℕ → Bool) (exactly : (m : ℕ) → IsTrue (set m) ↔ IsStaged changed before after m)
    (some : 1 ≤ after) (fresh : (k : ℕ) → before ≤ k → k < after → (place : ℕ) × (place < length changed) × (slice_index changed place ≡ k)) where
  pub set_root : IsTrue (set 1)
  set_root = (exactly 1).1 (inl refl)

  pub set_up : (n : ℕ) → 2 ≤ n → IsTrue (set n) → IsTrue (set (n / 2))
  set_up n more has = (exactly (n / 2)).1 (staged_up changed before after n more ((exactly n).0 has))

  pub set_fresh : (n : ℕ) → before < n → n ≤ after → IsTrue (set n)
  set_fresh n past most =
      let there = fresh (n - 1) (omega arith) (omega arith) in
      (exactly n).1 (let is : slice_index changed there.0 + 1 ≡ n = omega (arith, there.2) in subst (λ m. IsStaged changed before after m) is (staged_block changed before after there.0 there.1))

  -- a node that is not in the set keeps its children
  pub set_edge : (n m : ℕ) → 1 ≤ n → n ≤ after → set n ≡ false → 2 ≤ m → n ≡ m / 2 → (m ≤ before) ↔ (m ≤ after)
  set_edge n m least most not more is = (
    λ was. elim (cases_lt after m) [
      | inl gone ↦ absurd (out (subst (λ k. IsStaged changed before after k) (sym is) (staged_parent changed before after m some gone was (omega arith))))
      | inr still ↦ omega arith
    ],
    λ there. elim (cases_lt before m) [
      | inl new ↦ absurd (false≢true (sym not ∙ ap set is ∙ set_up m more (set_fresh m new there)))
      | inr old ↦ omega arith
    ],
  )
    where
      out : IsStaged changed before after n → ⊥
      out staged = false≢true (sym not ∙ (exactly n).1 staged)

-- The count, number by number.
pub count_none : (set : ℕ → Bool) → count_to set 0 ≡ 0
unfolding count_to
count_none set = refl

pub count_next : (set : ℕ → Bool) (n : ℕ) → count_to set (n + 1) ≡ count_to set n + cond (set (n + 1)) 1 0
unfolding count_to
count_next set n = let next : n + 1 ≡ suc n = omega arith in rw next refl

-- sets that have the same numbers have the same count
pub count_same : (a b : ℕ → Bool) (most : ℕ) → ((n : ℕ) → 1 ≤ n → n ≤ most → a n ≡ b n) → count_to a most ≡ count_to b most
unfolding count_to
count_same a b zero same = refl
count_same a b (suc n) same =
    let one : Bool → ℕ = λ t. cond t 1 0 in
    let here : one (a (suc n)) ≡ one (b (suc n)) = ap one (same (suc n) (omega arith) (omega arith)) in
    omega (arith, here, count_same a b n (λ k least le. same k least (omega arith)))

pub one_most : (t : Bool) → cond t 1 0 ≤ 1
one_most true = omega arith
one_most false = omega arith

-- a set has at most all numbers
pub count_most : (set : ℕ → Bool) (most : ℕ) → count_to set most ≤ most
unfolding count_to
count_most set zero = omega arith
count_most set (suc n) = omega (arith, count_most set n, one_most (set (suc n)))

-- and up to a smaller number at most as many
pub count_fewer : (set : ℕ → Bool) (few most : ℕ) → few ≤ most → count_to set few ≤ count_to set most
unfolding count_to
count_fewer set few zero le = let e : few ≡ 0 = omega arith in subst (λ (k : ℕ). count_to set k ≤ count_to set 0) (sym e) (omega arith)
count_fewer set few (suc n) le = elim (cases_lt few (suc n)) [
  | inl lt ↦ omega (arith, count_fewer set few n (omega arith))
  | inr ge ↦ let e : few ≡ suc n = omega arith in subst (λ (k : ℕ). count_to set k ≤ count_to set (suc n)) (sym e) (omega arith)
]
