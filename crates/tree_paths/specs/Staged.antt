-- Which nodes a stage writes, where a tree of `before` nodes becomes one of `after`, and how many bytes it may write.
use Rattle.std.specs.Prelude.{◌≡◌, ◌⊎◌, ◌↔◌, ℕ, zero, suc, ◌+◌, ◌*◌, ◌/◌, ◌<◌, ◌≤◌, List, length, Bool, IsTrue, cond}
use Rattle.tree_paths.specs.Paths.{IsOnPath, IsTouched}

-- the node m stands above a node that goes away, and remains, or it is above such a node
pub record IsAboveRemoved (before after m : ℕ) : Type 0 where
  pub child : ℕ
  pub gone : after < child
  pub was : child ≤ before
  pub remains : child / 2 ≤ after
  pub path : IsOnPath m (child / 2)

-- A stage writes node m: it is the root, the node of a changed block, or the remaining parent of a node that goes away, or it
-- is above one of these.
abbrev pub IsStaged : (changed : List ℕ) → (before after m : ℕ) → Type 0
IsStaged changed before after m = (m ≡ 1) ⊎ (IsTouched changed m ⊎ IsAboveRemoved before after m)

-- how many numbers from 1 to `most` the set has
unfoldable pub count_to : (ℕ → Bool) → (most : ℕ) → ℕ
count_to set zero = 0
count_to set (suc n) = count_to set n + cond (set (suc n)) 1 0

-- the bytes that a stage of so many changed blocks and so many nodes writes at most: the head, the blocks and the nodes
abbrev pub write_budget : (changed nodes : ℕ) → ℕ
write_budget changed nodes = 32 + 4096 * changed + 66 * nodes

-- A stage that counted so many written bytes before and so many after is within the budget of these changed blocks.
pub record IsWithinBudget (changed : List ℕ) (before after old new : ℕ) : Type 0 where
  pub set : ℕ → Bool
  pub nodes : (m : ℕ) → IsTrue (set m) ↔ IsStaged changed before after m
  pub most : new ≤ old + write_budget (length changed) (count_to set 256)
