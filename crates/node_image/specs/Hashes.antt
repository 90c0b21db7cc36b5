-- The hash of a node: SHA-256 over its own fields, for the root the head, and the hashes of its children.
use Rattle.std.specs.Prelude.{ℕ, List, [], ◌++◌, Option, None, Some}
use Rattle.std.specs.Int.{w16, w32, w64, to_be_bytes}
use Rattle.sha2.specs.Sha256.{sha256}
use Rattle.node_image.specs.declared.node.NodeImage.{NodeImage}
use Rattle.node_image.specs.declared.head.Head.{Head}

-- the wrapped key, the length and the greatest node of a head
abbrev pub head_input : Option Head → List ℕ
head_input None = []
head_input (Some h) = h.wrapped ++ (to_be_bytes w64 h.length ++ to_be_bytes w32 h.greatest)

-- the hash of a child that exists
abbrev pub child_input : Option (List ℕ) → List ℕ
child_input None = []
child_input (Some hash) = hash

-- what a node's hash is taken over
unfoldable pub hash_input : NodeImage → Option Head → (left right : Option (List ℕ)) → List ℕ
hash_input n head left right =
    n.iv ++ (n.tag ++ (to_be_bytes w16 n.flags ++ (head_input head ++ (child_input left ++ child_input right))))

abbrev pub node_hash_of : NodeImage → Option Head → (left right : Option (List ℕ)) → List ℕ
node_hash_of n head left right = sha256 (hash_input n head left right)
