-- The numbers of a head whose numbers fit each other.
use Rattle.std.proofs.Common.{◌≡◌, ℕ, ◌+◌, ◌-◌, ◌/◌, ◌≤◌, max, List, length, true, leb, ◌==◌, min, drop, length-append, length-drop, length-take, sym, ◌∙◌, ap, subst, arith}
use Rattle.std.proofs.lemmas.Bool.{and_parts, eqb-true, leb-true}
use Rattle.disk_model.specs.Bytes.{AreBytes}
use Rattle.node_image.specs.declared.node.NodeImage.{NodeImage}
use Rattle.node_image.specs.declared.node.RootRef.{RootRef}
use Rattle.node_image.specs.declared.head.Head.{Head}
use Rattle.node_image.specs.Parts.{Layout, start, layout_of}
use Rattle.node_image.specs.Parts.Part.{head, node}
use Rattle.node_image.specs.Tables.{at_node, no_node}
use Rattle.node_image.specs.Selection.{bytes_at, head_in, nodes_in, selected_node, version_in}
use Rattle.node_image.proofs.ImageBytes.{length-bytes_at}
use Rattle.node_image.proofs.Matching.{row_at}
use Rattle.byte_fields.proofs.Fields.{length-field}
use Rattle.htree_file.proofs.ByteLists.{bytes-drop, bytes-take, part-bytes}
use Rattle.htree_file.specs.Staging.{HeadReturns}
use Rattle.htree_file.specs.Opening.{HasFields, HasWidth}
use Rattle.byte_fields.specs.Field.{field}
use Rattle.node_image.specs.Layout.{greatest_of, has_form, head_bytes, head_of, is_sized, node_bytes, node_of}
use Rattle.std.specs.Int.{w32, from_be_bytes}

-- a form that holds is that of a head whose numbers fit
pub form_sized : (bytes : List ℕ) → has_form bytes ≡ true → is_sized (head_of bytes) ≡ true
unfolding has_form
form_sized bytes form = (and_parts (is_sized (head_of bytes)) (from_be_bytes w32 (field 28 4 bytes) == 0) form).0

-- a tree has 1 to 256 nodes
pub sized_few : (h : Head) → is_sized h ≡ true → (1 ≤ h.greatest) × (h.greatest ≤ 256)
sized_few h sized =
    let both = and_parts (leb h.length 1048576) (h.greatest == greatest_of h.length) sized in
    let short : h.length ≤ 1048576 = leb-true h.length 1048576 both.0 in
    let many : h.greatest ≡ max 1 ((h.length + 4095) / 4096) = eqb-true h.greatest (greatest_of h.length) both.1 in
    (omega (arith, many), omega (arith, many, short))

-- and as many as its bytes need
pub sized_greatest : (h : Head) → is_sized h ≡ true → h.greatest ≡ greatest_of h.length
sized_greatest h sized = eqb-true h.greatest (greatest_of h.length) (and_parts (leb h.length 1048576) (h.greatest == greatest_of h.length) sized).1

-- what stands in an image of bytes has the widths of its fields
field_width : (bytes : List ℕ) (at width : ℕ) → AreBytes bytes → at + width ≤ length bytes → HasWidth width (field at width bytes)
field_width bytes at width each within = record { long = length-field bytes at width within; bytes = bytes-take width (drop at bytes) (bytes-drop at bytes each) }

pub head_width : (bytes : List ℕ) → AreBytes bytes → length bytes ≡ 32 → HasWidth 16 (head_of bytes).wrapped
unfolding head_of
head_width bytes each long = field_width bytes 0 16 each (omega (arith, long))

pub node_width : (bytes : List ℕ) → AreBytes bytes → length bytes ≡ 66 → HasFields (node_of bytes)
unfolding node_of
node_width bytes each long = record {
  hash = field_width bytes 0 32 each (omega (arith, long));
  iv = field_width bytes 32 16 each (omega (arith, long));
  tag = field_width bytes 48 16 each (omega (arith, long));
}

pub part_width : (image : List ℕ) (at width : ℕ) → AreBytes image → HasWidth width (bytes_at image at width)
part_width image at width each = record { long = length-bytes_at image at width; bytes = part-bytes image at width each }

pub head_in_width : (image : List ℕ) (root : RootRef) → AreBytes image → HasWidth 16 (head_in image root).wrapped
head_in_width image root each = let part = part_width image (start (layout_of root.format) (head root.version)) 32 each in head_width _ part.bytes part.long

pub node_in_width : (layout : Layout) (image : List ℕ) (n v : ℕ) → AreBytes image → HasFields (node_of (bytes_at image (start layout (node n v)) 66))
node_in_width layout image n v each = let part = part_width image (start layout (node n v)) 66 each in node_width _ part.bytes part.long

pub nodes_in_width : (image : List ℕ) (root : RootRef) → AreBytes image → (n : ℕ) → 1 ≤ n → n ≤ (head_in image root).greatest → HasFields (at_node (nodes_in image root) n)
nodes_in_width image root each n least most =
    subst HasFields (sym (row_at (λ k. selected_node image root (k + 1)) (head_in image root).greatest (n - 1) no_node (omega arith)))
    (node_in_width (layout_of root.format) image ((n - 1) + 1) (version_in image root ((n - 1) + 1)) each)

-- a head that is read back from its bytes has them too
pub returned_width : (h : Head) → HeadReturns h → HasWidth 16 h.wrapped
unfolding head_of head_bytes
returned_width h returns =
    let bytes : List ℕ = head_bytes h in
    let long : length bytes ≡ length h.wrapped + 16 = length-append h.wrapped _ in
    subst (λ (x : Head). HasWidth 16 x.wrapped) returns.read (field_width bytes 0 16 returns.bytes (omega (arith, long)))

pub returned_fields : (n : NodeImage) → node_of (node_bytes n) ≡ n → AreBytes (node_bytes n) → HasFields n
unfolding node_of node_bytes
returned_fields n returns each =
    let bytes : List ℕ = node_bytes n in
    let long : length bytes ≡ length n.hash + (length n.iv + (length n.tag + 2)) =
    length-append n.hash _ ∙ ap (λ (k : ℕ). length n.hash + k) (length-append n.iv _ ∙ ap (λ (k : ℕ). length n.iv + k) (length-append n.tag _)) in
    let hash : length n.hash ≡ min 32 (length (drop 0 bytes)) = sym (ap (λ (x : NodeImage). length x.hash) returns) ∙ length-take 32 (drop 0 bytes) in
    let iv : length n.iv ≡ min 16 (length (drop 32 bytes)) = sym (ap (λ (x : NodeImage). length x.iv) returns) ∙ length-take 16 (drop 32 bytes) in
    let tag : length n.tag ≡ min 16 (length (drop 48 bytes)) = sym (ap (λ (x : NodeImage). length x.tag) returns) ∙ length-take 16 (drop 48 bytes) in
    let all : length bytes ≡ 66 = omega (arith, long, hash, iv, tag, length-drop 0 bytes, length-drop 32 bytes, length-drop 48 bytes) in
    subst HasFields returns (node_width bytes each all)
