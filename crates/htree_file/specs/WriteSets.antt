-- Which parts a stage writes. A part that is written gets its other version.
use Rattle.std.specs.Prelude.{◌≡◌, ◌↔◌, ℕ, ◌+◌, ◌-◌, ◌*◌, ◌/◌, ◌%◌, ◌<◌, ◌≤◌, List, length, get_or, Bool, true, false, cond}
use Rattle.node_image.specs.declared.node.NodeImage.{NodeImage}
use Rattle.node_image.specs.Tables.{at_node, no_node}
use Rattle.htree_file.specs.declared.change.BlockChange.{BlockChange}
use Rattle.htree_file.specs.Changes.{IsChanged}

-- A stage from so many nodes to so many may write these nodes, and the blocks of these. The root is among them, with each
-- node the one above it, and with each block its node; so are new nodes with their blocks, and each node that gets or loses a
-- child. The blocks are those that change.
pub record IsWriteSet (before after : ℕ) (changes : List BlockChange) (nodes blocks : ℕ → Bool) : Type 0 where
  pub root : nodes 1 ≡ true
  pub up : (n : ℕ) → 2 ≤ n → n ≤ after → nodes n ≡ true → nodes (n / 2) ≡ true
  pub own : (n : ℕ) → 1 ≤ n → n ≤ after → blocks n ≡ true → nodes n ≡ true
  pub fresh : (n : ℕ) → before < n → n ≤ after → (nodes n ≡ true) × (blocks n ≡ true)
  pub edge : (n m : ℕ) → 1 ≤ n → n ≤ after → nodes n ≡ false → 2 ≤ m → n ≡ m / 2 → (m ≤ before) ↔ (m ≤ after)
  pub changed : (k : ℕ) → IsChanged changes k → blocks (k + 1) ≡ true
  pub only : (k : ℕ) → blocks (k + 1) ≡ true → IsChanged changes k

-- the version after, where the part is written or is not
abbrev pub turned : (written : Bool) → (version : ℕ) → ℕ
turned written version = cond written (1 - version) version

-- the flags of node n after: the versions of its block and of its children, each turned where it is written
abbrev pub turned_flags : (nodes blocks : ℕ → Bool) → (n flags : ℕ) → ℕ
turned_flags nodes blocks n flags =
    turned (blocks n) (flags % 2) + (2 * turned (nodes (2 * n)) ((flags / 2) % 2) + 4 * turned (nodes (2 * n + 1)) ((flags / 4) % 2))

-- the node is node n of the committed table, with its flags turned where it is written
pub record IsTurned (committed : List NodeImage) (nodes blocks : ℕ → Bool) (n : ℕ) (node : NodeImage) : Type 0 where
  pub flags : nodes n ≡ true → node.flags ≡ turned_flags nodes blocks n (at_node committed n).flags
  pub seal : n ≤ length committed → (node.iv ≡ (at_node committed n).iv) × (node.tag ≡ (at_node committed n).tag)
  pub same : nodes n ≡ false → n ≤ length committed → node ≡ at_node committed n

-- so is each of the first nodes of a table
abbrev pub AreTurned : (committed : List NodeImage) → (nodes blocks : ℕ → Bool) → (table : List NodeImage) → (count : ℕ) → Type 0
AreTurned committed nodes blocks table count = (k : ℕ) → k < count → IsTurned committed nodes blocks (k + 1) (get_or table k no_node)
