-- What a reference names in an image: a head and a table of nodes, or the first fault.
use Rattle.std.specs.Prelude.{◌≡◌, ℕ, zero, suc, ◌+◌, ◌≤◌, List, length, true, nat_le, cond, max, Option, Some, None, Result, Ok, Err}
use Rattle.disk_model.specs.Bytes.{AreBytes}
use Rattle.node_image.specs.declared.node.NodeImage.{NodeImage}
use Rattle.node_image.specs.declared.node.RootRef.{RootRef}
use Rattle.node_image.specs.declared.head.Head.{Head}
use Rattle.node_image.specs.Layout.{has_form, is_sized}
use Rattle.node_image.specs.Parts.{Layout, start, layout_of}
use Rattle.node_image.specs.Parts.Part.{head, block}
use Rattle.node_image.specs.Tables.{at_node, block_version, hash_in}
use Rattle.node_image.specs.Selection.{head_in, nodes_in, part_in}
use Rattle.htree_file.specs.declared.fault.TreeFault.{TreeFault}
use Rattle.htree_file.specs.declared.fault.TreeFault.TheVariants.{BadHead, Damaged, Short}
use Rattle.std.specs.Str.{bytes_eq}

-- the head and the nodes of a tree, node 1 first, and how its parts stand
pub record Loaded : Type 0 where
  pub head : Head
  pub nodes : List NodeImage
  pub layout : Layout

-- the first of so many nodes, from node n on, whose stored hash is not the one that it has
abbrev pub first_damaged : Head → List NodeImage → (n count : ℕ) → Option ℕ
first_damaged h nodes n zero = None
first_damaged h nodes n (suc count) =
    cond (bytes_eq (at_node nodes n).hash (hash_in nodes h n)) (first_damaged h nodes (n + 1) count) (Some n)

-- the greatest end of the selected blocks among the first k
abbrev pub need_of : Layout → List NodeImage → (k : ℕ) → ℕ
need_of layout nodes zero = 0
need_of layout nodes (suc k) = max (need_of layout nodes k) (start layout (block k (block_version nodes k)) + 4096)

abbrev pub or_damaged : Layout → Head → List NodeImage → Option ℕ → Result Loaded TreeFault
or_damaged layout h nodes None = Ok (record { head = h; nodes = nodes; layout = layout })
or_damaged layout h nodes (Some n) = Err (Damaged n (at_node nodes n).hash (hash_in nodes h n))

-- the root's stored hash is the reference's, and each node's is the one that it has
abbrev pub checked : Head → List NodeImage → RootRef → Result Loaded TreeFault
checked h nodes root =
    cond (bytes_eq (at_node nodes 1).hash root.hash)
    (or_damaged (layout_of root.format) h nodes (first_damaged h nodes 1 (length nodes)))
    (Err (Damaged 1 root.hash (at_node nodes 1).hash))

-- head and nodes, or the first fault of these
abbrev pub table_of : List ℕ → RootRef → Result Loaded TreeFault
table_of image root =
    cond (has_form (part_in (layout_of root.format) image (head root.version)))
    (checked (head_in image root) (nodes_in image root) root)
    (Err (BadHead (head_in image root).length (head_in image root).greatest))

-- the selected blocks end within the file
abbrev pub long_enough : (end : ℕ) → Result Loaded TreeFault → Result Loaded TreeFault
long_enough end (Ok tree) =
    cond (nat_le (need_of tree.layout tree.nodes (length tree.nodes)) end) (Ok tree)
    (Err (Short end (need_of tree.layout tree.nodes (length tree.nodes))))
long_enough end (Err fault) = Err fault

-- what loading gives: the head has its form, the root's hash is the reference's, each node has its own hash, and the file
-- is long enough; or the first of these that fails
abbrev pub load_of : List ℕ → RootRef → Result Loaded TreeFault
load_of image root = long_enough (length image) (table_of image root)

-- so many bytes
pub record HasWidth (width : ℕ) (field : List ℕ) : Type 0 where
  pub long : length field ≡ width
  pub bytes : AreBytes field

-- each field of a node has its width, so that the hash's input tells one from the next
pub record HasFields (n : NodeImage) : Type 0 where
  pub hash : HasWidth 32 n.hash
  pub iv : HasWidth 16 n.iv
  pub tag : HasWidth 16 n.tag

abbrev pub HaveFields : List NodeImage → Type 0
HaveFields nodes = (n : ℕ) → 1 ≤ n → n ≤ length nodes → HasFields (at_node nodes n)

-- a tree whose hashes hold under a reference, in a file of the reference's format
pub record IsHashed (root : RootRef) (tree : Loaded) : Type 0 where
  pub sized : is_sized tree.head ≡ true
  pub all : length tree.nodes ≡ tree.head.greatest
  pub stands : tree.layout ≡ layout_of root.format
  pub root_hash : (at_node tree.nodes 1).hash ≡ root.hash
  pub hashes : (n : ℕ) → 1 ≤ n → n ≤ length tree.nodes → (at_node tree.nodes n).hash ≡ hash_in tree.nodes tree.head n

-- and whose fields are bytes of their widths
pub record IsVerified (root : RootRef) (tree : Loaded) : Type 0 where
  pub hashed : IsHashed root tree
  pub wrapped : HasWidth 16 tree.head.wrapped
  pub fields : HaveFields tree.nodes
