-- How many bytes a stage of one entry writes.
use Rattle.std.proofs.Common.{◌≡◌, ◌+◌, ◌/◌, ◌<◌, ◌≤◌, ◌==◌, ℕ, zero, suc, [], ◌∷◌, Bool, true, false, cond, refl, ap, subst, inl, inr, arith}
use Rattle.std.specs.Prelude.{IsTrue, ◌⊎◌, slice_index}
use Rattle.std.proofs.lemmas.Bool.{cases_Bool, cases_eq, eq-eqb, ne_eqb}
use Rattle.tree_paths.specs.Paths.{IsOnPath}
use Rattle.tree_paths.specs.Staged.{IsStaged, IsWithinBudget, count_to}
use Rattle.tree_paths.proofs.Halving.{on_path_split, on_path_zero}

abbrev bit : Bool → ℕ
bit b = cond b 1 0

bit_true : (b : Bool) → b ≡ true → bit b ≡ 1
bit_true b is = ap bit is

bit_false : (b : Bool) → b ≡ false → bit b ≡ 0
bit_false b is = ap bit is

-- one number is one member
abbrev point : ℕ → ℕ → Bool
point x m = m == x

point_less : (x most : ℕ) → most < x → count_to (point x) most ≡ 0
unfolding count_to
point_less x zero less = refl
point_less x (suc n) less =
    let before = point_less x n (omega arith) in
    let here : bit (suc n == x) ≡ 0 = bit_false (suc n == x) (ne_eqb (suc n) x (λ e. absurd (omega arith))) in
    omega (arith, before, here)

point_one : (x most : ℕ) → count_to (point x) most ≤ 1
unfolding count_to
point_one x zero = omega arith
point_one x (suc n) = elim (cases_eq (suc n) x) [
  | inl same ↦
      let before = point_less x n (omega arith) in
      let here : bit (suc n == x) ≡ 1 = bit_true (suc n == x) (eq-eqb (suc n) x same) in
      omega (arith, before, here)
  | inr other ↦
      let before = point_one x n in
      let here : bit (suc n == x) ≡ 0 = bit_false (suc n == x) (ne_eqb (suc n) x other) in
      omega (arith, before, here)
]

-- the members are some of four numbers
abbrev AreOf : (set : ℕ → Bool) → (a b c d : ℕ) → Type 0
AreOf set a b c d = (m : ℕ) → IsTrue (set m) → (m ≡ a) ⊎ ((m ≡ b) ⊎ ((m ≡ c) ⊎ (m ≡ d)))

bit_at : (x m : ℕ) → m ≡ x → bit (point x m) ≡ 1
bit_at x m same = bit_true (m == x) (eq-eqb m x same)

four_here : (set : ℕ → Bool) (a b c d m : ℕ) → AreOf set a b c d → bit (set m) ≤ bit (point a m) + bit (point b m) + bit (point c m) + bit (point d m)
four_here set a b c d m are = elim (cases_Bool (set m)) [
  | inl has ↦
      let one : bit (set m) ≡ 1 = bit_true (set m) has in
      elim (are m has) [
        | inl x ↦ let h = bit_at a m x in omega (arith, one, h)
        | inr rest ↦ elim rest [
          | inl x ↦ let h = bit_at b m x in omega (arith, one, h)
          | inr rest ↦ elim rest [
            | inl x ↦ let h = bit_at c m x in omega (arith, one, h)
            | inr x ↦ let h = bit_at d m x in omega (arith, one, h)
          ]
        ]
      ]
  | inr lacks ↦ let none : bit (set m) ≡ 0 = bit_false (set m) lacks in omega (arith, none)
]

four_points : (set : ℕ → Bool) (a b c d most : ℕ) → AreOf set a b c d → count_to set most ≤ count_to (point a) most + count_to (point b) most + count_to (point c) most + count_to (point d) most
unfolding count_to
four_points set a b c d zero are = omega arith
four_points set a b c d (suc n) are =
    let before = four_points set a b c d n are in
    let here = four_here set a b c d (suc n) are in
    omega (arith, before, here)

four_most : (set : ℕ → Bool) (a b c d most : ℕ) → AreOf set a b c d → count_to set most ≤ 4
four_most set a b c d most are = omega (arith, four_points set a b c d most are, point_one a most, point_one b most, point_one c most, point_one d most)

-- the nodes that a stage of one of eight blocks writes: the block's, and the three above it
staged_four : (block m : ℕ) → block < 8 → IsStaged (block ∷ []) 8 8 m → (m ≡ 1) ⊎ ((m ≡ block + 1) ⊎ ((m ≡ (block + 1) / 2) ⊎ (m ≡ (block + 1) / 2 / 2)))
staged_four block m few (inl root) = inl root
staged_four block m few (inr (inr above)) = absurd (omega (arith, above.gone, above.was))
staged_four block m few (inr (inl touched)) =
    let place : touched.place ≡ 0 = omega (arith, touched.below) in
    by_path (subst (λ (p : ℕ). IsOnPath m (slice_index (block ∷ []) p + 1)) place touched.path)
  where
    by_path : IsOnPath m (block + 1) → (m ≡ 1) ⊎ ((m ≡ block + 1) ⊎ ((m ≡ (block + 1) / 2) ⊎ (m ≡ (block + 1) / 2 / 2)))
    by_path path = elim (on_path_split m (block + 1) path) [
      | inl same ↦ inr (inl same)
      | inr path ↦ elim (on_path_split m ((block + 1) / 2) path) [
        | inl same ↦ inr (inr (inl same))
        | inr path ↦ elim (on_path_split m ((block + 1) / 2 / 2) path) [
          | inl same ↦ inr (inr (inr same))
          | inr path ↦ elim (on_path_split m ((block + 1) / 2 / 2 / 2) path) [
            | inl same ↦ inl (omega (arith, same, path.node, few))
            | inr path ↦
                let none : (block + 1) / 2 / 2 / 2 / 2 ≡ 0 = omega (arith, few) in
                absurd (on_path_zero m (subst (IsOnPath m) none path))
          ]
        ]
      ]
    ]

-- A stage within the budget of one of eight blocks writes at most 4,392 bytes.
pub one_block : (block old new : ℕ) → block < 8 → IsWithinBudget (block ∷ []) 8 8 old new → new ≤ old + 4392
one_block block old new few budget =
    let nodes : count_to budget.set 256 ≤ 4 = four_most budget.set 1 (block + 1) ((block + 1) / 2) ((block + 1) / 2 / 2) 256 (λ m has. staged_four block m few ((budget.nodes m).0 has)) in
    omega (arith, nodes, budget.most)
