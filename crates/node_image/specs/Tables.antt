-- A table of the nodes of a tree, node 1 first, and the versions that it names.
use Rattle.std.specs.Prelude.{ℕ, ◌+◌, ◌-◌, ◌*◌, ◌/◌, ◌%◌, List, [], get_or, ◌==◌, nat_le, cond, Option, None, Some}
use Rattle.node_image.specs.declared.node.NodeImage.{NodeImage}
use Rattle.node_image.specs.declared.head.Head.{Head}
use Rattle.node_image.specs.Hashes.{node_hash_of}

-- what stands for a node that a table lacks
abbrev pub no_node : NodeImage
no_node = record { hash = []; iv = []; tag = []; flags = 0 }

-- node n of a table
abbrev pub at_node : List NodeImage → ℕ → NodeImage
at_node nodes n = get_or nodes (n - 1) no_node

-- bit 0 of a node's flags is the version of its block
abbrev pub block_bit : ℕ → ℕ
block_bit flags = flags % 2

-- bit 1 of the flags of the node above node n is the version of n where n is even, bit 2 where n is odd
abbrev pub child_bit : ℕ → ℕ → ℕ
child_bit flags n = cond (n % 2 == 0) ((flags / 2) % 2) ((flags / 4) % 2)

-- the version of node n: the root's by the reference, any other's by the node above it
abbrev pub node_version : List NodeImage → (root n : ℕ) → ℕ
node_version nodes root n = cond (nat_le n 1) root (child_bit (at_node nodes (n / 2)).flags n)

-- the version of block k, which hangs on node k + 1
abbrev pub block_version : List NodeImage → ℕ → ℕ
block_version nodes k = block_bit (at_node nodes (k + 1)).flags

-- the stored hash of a node, where the tree has it
abbrev pub stored_hash : List NodeImage → (greatest n : ℕ) → Option (List ℕ)
stored_hash nodes greatest n = cond (nat_le n greatest) (Some (at_node nodes n).hash) None

-- the hash that node n has by the table and the head
abbrev pub hash_in : List NodeImage → Head → ℕ → List ℕ
hash_in nodes head n =
    node_hash_of (at_node nodes n) (cond (n == 1) (Some head) None)
    (stored_hash nodes head.greatest (2 * n)) (stored_hash nodes head.greatest (2 * n + 1))
