-- The bytes of a node and of a head: fields one after the other, numbers big-endian.
use Rattle.std.specs.Prelude.{◌≡◌, ℕ, ◌+◌, ◌/◌, ◌^◌, ◌<◌, max, List, [], ◌∷◌, ◌++◌, length, Bool, ◌==◌, ◌&&◌, nat_le}
use Rattle.std.specs.Int.{w16, w32, w64, from_be_bytes, to_be_bytes}
use Rattle.byte_fields.specs.Field.{field}
use Rattle.node_image.specs.declared.node.NodeImage.{NodeImage}
use Rattle.node_image.specs.declared.head.Head.{Head}

-- the node that 66 bytes hold
unfoldable pub node_of : List ℕ → NodeImage
node_of bytes = record {
  hash = field 0 32 bytes;
  iv = field 32 16 bytes;
  tag = field 48 16 bytes;
  flags = from_be_bytes w16 (field 64 2 bytes);
}

unfoldable pub node_bytes : NodeImage → List ℕ
node_bytes n = n.hash ++ (n.iv ++ (n.tag ++ to_be_bytes w16 n.flags))

-- each field of a node has its width
abbrev pub HasWidths : NodeImage → Type 0
HasWidths n = (length n.hash ≡ 32) × (length n.iv ≡ 16) × (length n.tag ≡ 16) × (n.flags < 2 ^ 16)

-- the bits of a node's flags that name no version are zero
abbrev pub HasNoSpareBits : NodeImage → Type 0
HasNoSpareBits n = n.flags < 8

-- the head that 32 bytes hold
unfoldable pub head_of : List ℕ → Head
head_of bytes = record {
  wrapped = field 0 16 bytes;
  length = from_be_bytes w64 (field 16 8 bytes);
  greatest = from_be_bytes w32 (field 24 4 bytes);
}

unfoldable pub head_bytes : Head → List ℕ
head_bytes h = h.wrapped ++ (to_be_bytes w64 h.length ++ (to_be_bytes w32 h.greatest ++ 0 ∷ 0 ∷ 0 ∷ 0 ∷ []))

-- the greatest node of a tree that holds so many bytes: a node for each block of 4,096, and at least one
abbrev pub greatest_of : ℕ → ℕ
greatest_of length = max 1 ((length + 4095) / 4096)

-- the numbers of a head fit each other
abbrev pub is_sized : Head → Bool
is_sized h = nat_le h.length 1048576 && (h.greatest == greatest_of h.length)

-- 32 bytes have the form of a head: its numbers fit each other, and the last four bytes are zero
unfoldable pub has_form : List ℕ → Bool
has_form bytes = is_sized (head_of bytes) && (from_be_bytes w32 (field 28 4 bytes) == 0)
