-- Nodes of a binary tree, numbered from the root: node n stands above nodes 2 n and 2 n + 1.
use Rattle.std.specs.Prelude.{◌≡◌, ℕ, ◌+◌, ◌/◌, ◌^◌, ◌<◌, ◌≤◌, List, length, get_or, Bool, false, nat_le, cond, Option, None, Some, IsTrue, slice_index}
use Rattle.tree_paths.specs.declared.node_set.NodeSet.{NodeSet}

-- the node n, where a tree whose greatest node is g has it
abbrev pub node_up_to : (g n : ℕ) → Option ℕ
node_up_to g n = cond (nat_le n g) (Some n) None

-- the node m is n, or above n: n with some of its last binary digits left out
pub record IsOnPath (m n : ℕ) : Type 0 where
  pub node : 1 ≤ m
  pub steps : ℕ
  pub is : m ≡ n / 2 ^ steps

-- the set has the node n
abbrev pub holds : NodeSet → ℕ → Bool
holds set n = get_or set.members n false

-- the node m is that of one of the blocks, or above it; block k hangs on node k + 1
pub record IsTouched (blocks : List ℕ) (m : ℕ) : Type 0 where
  pub place : ℕ
  pub below : place < length blocks
  pub path : IsOnPath m (slice_index blocks place + 1)

-- the set has the root, the node of each block, and with each node the one above it
pub record IsClosed (set : NodeSet) (blocks : List ℕ) : Type 0 where
  pub root : IsTrue (holds set 1)
  pub up : (n : ℕ) → 2 ≤ n → IsTrue (holds set n) → IsTrue (holds set (n / 2))
  pub block : (i : ℕ) → i < length blocks → IsTrue (holds set (slice_index blocks i + 1))
