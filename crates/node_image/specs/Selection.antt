-- What a reference selects in an image: a recursion over the whole image, from the root down.
use Rattle.std.specs.Prelude.{◌≡◌, ℕ, zero, suc, ◌+◌, ◌/◌, ◌≤◌, List, [], ◌∷◌, ◌++◌, get_or, nat_le, cond}
use Rattle.node_image.specs.declared.node.NodeImage.{NodeImage}
use Rattle.node_image.specs.declared.node.RootRef.{RootRef}
use Rattle.node_image.specs.declared.head.Head.{Head}
use Rattle.node_image.specs.Layout.{node_of, head_of}
use Rattle.node_image.specs.Parts.{Layout, Part, layout_of, start, size}
use Rattle.node_image.specs.Parts.Part.{head, node, block}
use Rattle.node_image.specs.Tables.{at_node, block_bit, child_bit, node_version}

-- so many bytes from a place on, zero past the image's end
unfoldable pub bytes_at : List ℕ → (at width : ℕ) → List ℕ
bytes_at image at zero = []
bytes_at image at (suc n) = get_or image at 0 ∷ bytes_at image (suc at) n

-- the bytes of a part
abbrev pub part_in : Layout → List ℕ → Part → List ℕ
part_in layout image q = bytes_at image (start layout q) (size q)

-- the node of that number and version
abbrev pub node_in : Layout → List ℕ → (n v : ℕ) → NodeImage
node_in layout image n v = node_of (part_in layout image (node n v))

-- the head of the reference's version
abbrev pub head_in : List ℕ → (root : RootRef) → Head
head_in image root = head_of (part_in (layout_of root.format) image (head root.version))

-- the version of node n: the root's is the reference's, any other's is named by the node above it; the first number
-- bounds the steps
abbrev pub version_by : List ℕ → (root : RootRef) → (steps n : ℕ) → ℕ
version_by image root zero n = root.version
version_by image root (suc steps) n =
    cond (nat_le n 1) root.version (child_bit (node_in (layout_of root.format) image (n / 2) (version_by image root steps (n / 2))).flags n)

abbrev pub version_in : List ℕ → (root : RootRef) → (n : ℕ) → ℕ
version_in image root n = version_by image root n n

-- node n as the reference selects it
abbrev pub selected_node : List ℕ → (root : RootRef) → (n : ℕ) → NodeImage
selected_node image root n = node_in (layout_of root.format) image n (version_in image root n)

-- the first n of a row
abbrev pub row : {A : Type 0} → (ℕ → A) → ℕ → List A
row f zero = []
row f (suc n) = row f n ++ f n ∷ []

-- the bytes that a reference selects: the head of its version, and each node and block of the version that is named
-- above it
pub record SelectedTree : Type 0 where
  pub head_bytes : List ℕ
  pub nodes : List (List ℕ)
  pub blocks : List (List ℕ)

abbrev pub selected_tree : List ℕ → (root : RootRef) → SelectedTree
selected_tree image root = record {
  head_bytes = part_in (layout_of root.format) image (head root.version);
  nodes = row (λ k. part_in (layout_of root.format) image (node (k + 1) (version_in image root (k + 1)))) (head_in image root).greatest;
  blocks = row (λ k. part_in (layout_of root.format) image (block k (block_bit (selected_node image root (k + 1)).flags))) (head_in image root).greatest;
}

-- the nodes of that tree
abbrev pub nodes_in : List ℕ → (root : RootRef) → List NodeImage
nodes_in image root = row (λ k. selected_node image root (k + 1)) (head_in image root).greatest

-- each node of a table stands in the image where the node above it says
abbrev pub Matches : List ℕ → (root : RootRef) → List NodeImage → (g : ℕ) → Type 0
Matches image root nodes g = (n : ℕ) → 1 ≤ n → n ≤ g → node_in (layout_of root.format) image n (node_version nodes root.version n) ≡ at_node nodes n
