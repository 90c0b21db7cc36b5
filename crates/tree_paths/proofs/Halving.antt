-- The nodes on the path from a node to the root.
use Rattle.std.proofs.Common.{◌≡◌, ◌⊎◌, inl, inr, ℕ, zero, suc, ◌/◌, ◌^◌, ◌≤◌, Bool, IsTrue, ◌||◌, ◌==◌, sym, ◌∙◌, ap, arith}
use Rattle.std.proofs.Math.Nat.{div-div-eq-div-mul, pow-suc, pow-succ', zero-div}
use Rattle.std.proofs.lemmas.Bool.{cases_lt, eqb-true, eq-eqb, or_left, or_right, cases_Bool}
use Rattle.tree_paths.specs.Paths.{IsOnPath}

-- a node is on its own path
pub on_path_here : (n : ℕ) → 1 ≤ n → IsOnPath n n
on_path_here n least = record { node = least; steps = 0; is = omega arith }

-- one step further up
pub on_path_up : (m n : ℕ) → IsOnPath m n → 2 ≤ m → IsOnPath (m / 2) n
on_path_up m n on more = record {
  node = omega arith;
  steps = suc on.steps;
  is = ap (λ (k : ℕ). k / 2) on.is ∙ div-div-eq-div-mul n (2 ^ on.steps) 2 ∙ ap (λ (k : ℕ). n / k) (sym (pow-suc 2 on.steps));
}

-- a node on the path is the node itself, or on the path from the one above
pub on_path_split : (m n : ℕ) → IsOnPath m n → (m ≡ n) ⊎ IsOnPath m (n / 2)
on_path_split m n on = split on.steps on.is
  where
    split : (steps : ℕ) → m ≡ n / 2 ^ steps → (m ≡ n) ⊎ IsOnPath m (n / 2)
    split zero is = inl (omega arith)
    split (suc k) is = inr (record {
      node = on.node;
      steps = k;
      is = is ∙ ap (λ (p : ℕ). n / p) (pow-succ' 2 k) ∙ sym (div-div-eq-div-mul n 2 (2 ^ k));
    })

-- and a node on the path from the one above is on the path
on_path_below : (m n : ℕ) → IsOnPath m (n / 2) → IsOnPath m n
on_path_below m n on = record {
  node = on.node;
  steps = suc on.steps;
  is = on.is ∙ div-div-eq-div-mul n 2 (2 ^ on.steps) ∙ ap (λ (p : ℕ). n / p) (sym (pow-succ' 2 on.steps));
}

-- no node is on the path from nothing
pub on_path_zero : (m : ℕ) → IsOnPath m 0 → ⊥
on_path_zero m on = let z : 0 / 2 ^ on.steps ≡ 0 = zero-div (2 ^ on.steps) in omega (arith, on.node, on.is, z)

-- the root is on each path
pub on_path_root : (n : ℕ) → 1 ≤ n → IsOnPath 1 n
on_path_root n least = climb n n least (omega arith)
  where
    climb : (most n : ℕ) → 1 ≤ n → n ≤ most → IsOnPath 1 n
    climb zero n least le = absurd (omega arith)
    climb (suc most) n least le = elim (cases_lt 1 n) [
      | inl above ↦ on_path_below 1 n (climb most (n / 2) (omega arith) (omega arith))
      | inr first ↦ record { node = omega arith; steps = 0; is = omega arith }
    ]

-- what a set has after one more node is put in
module _ (new old : ℕ → Bool) (n : ℕ) (added : (m : ℕ) → new m ≡ ((m == n) || old m)) where
  pub added_old : (m : ℕ) → IsTrue (old m) → IsTrue (new m)
  added_old m had = added m ∙ or_right (m == n) (old m) had

  pub added_here : (m : ℕ) → m ≡ n → IsTrue (new m)
  added_here m is = added m ∙ or_left (m == n) (old m) (eq-eqb m n is)

  pub added_only : (m : ℕ) → IsTrue (new m) → (m ≡ n) ⊎ IsTrue (old m)
  added_only m has = elim (cases_Bool (m == n)) [
    | inl same ↦ inl (eqb-true m n same)
    | inr other ↦ inr (sym (added m ∙ ap (λ b. b || old m) other) ∙ has)
  ]
