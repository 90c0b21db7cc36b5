-- Files with the same first bytes have the same head and the same nodes.
use Rattle.std.proofs.Common.{◌≡◌, inl, inr, ℕ, ◌+◌, ◌/◌, ◌%◌, ◌<◌, ◌≤◌, List, get_or, cond, leb, eqb, Err, refl, sym, ◌∙◌, ap, zero-add, arith}
use Rattle.std.proofs.lemmas.Bool.{cases_Bool, cond_both}
use Rattle.node_image.specs.declared.node.NodeImage.{NodeImage}
use Rattle.node_image.specs.declared.node.RootRef.{RootRef}
use Rattle.node_image.specs.Layout.{has_form, head_of, node_of}
use Rattle.node_image.specs.Parts.{Layout, Part, nodes_end, size, start, layout_of}
use Rattle.node_image.specs.Parts.Layout.{aligned, tight}
use Rattle.node_image.specs.Parts.Part.{block, head, node}
use Rattle.node_image.specs.Tables.{at_node, child_bit, node_version}
use Rattle.node_image.specs.Selection.{Matches, bytes_at, head_in, node_in, nodes_in, part_in, row, selected_node}
use Rattle.node_image.proofs.ImageBytes.{bytes_same, get_or-bytes_at}
use Rattle.node_image.proofs.Matching.{node_is, row_same, table_matches}
use Rattle.htree_file.specs.declared.fault.TreeFault.TheVariants.{BadHead}
use Rattle.htree_file.specs.Opening.{checked, table_of}
use Rattle.htree_file.proofs.Sizes.{form_sized, sized_few}
use Rattle.htree_file.proofs.Verdicts.{table_unformed}

-- versions are below 2
pub node_version_bit : (nodes : List NodeImage) (root n : ℕ) → root < 2 → node_version nodes root n < 2
node_version_bit nodes root n lt = cond_both (leb n 1) root (child_bit (at_node nodes (n / 2)).flags n) (λ v. v < 2) (λ e. lt) (λ e. cond_both (eqb (n % 2) 0) (((at_node nodes (n / 2)).flags / 2) % 2) (((at_node nodes (n / 2)).flags / 4) % 2) (λ v. v < 2) (λ f. omega arith) (λ f. omega arith))

-- the parts before the blocks end where the nodes do
pub head_low : (layout : Layout) (v : ℕ) → v < 2 → start layout (head v) + 32 ≤ nodes_end layout
head_low tight v bit = omega arith
head_low aligned v bit = omega arith

pub node_low : (layout : Layout) (n v : ℕ) → 1 ≤ n → n ≤ 256 → v < 2 → start layout (node n v) + 66 ≤ nodes_end layout
node_low tight n v least most bit = omega (arith, least, most, bit)
node_low aligned n v least most bit = omega (arith, least, most, bit)

pub block_low : (layout : Layout) (k v : ℕ) → k < 256 → v < 2 → start layout (block k v) + 4096 ≤ 2363392
block_low tight k v few bit = omega (arith, few, bit)
block_low aligned k v few bit = omega (arith, few, bit)

pub nodes_low : (layout : Layout) → nodes_end layout ≤ 263168
nodes_low tight = omega arith
nodes_low aligned = omega arith

module _ (a b : List ℕ) (root : RootRef) (bit : root.version < 2) (same : (p : ℕ) → p < nodes_end (layout_of root.format) → get_or a p 0 ≡ get_or b p 0) where
  part_same : (q : Part) → start (layout_of root.format) q + size q ≤ nodes_end (layout_of root.format) → part_in (layout_of root.format) a q ≡ part_in (layout_of root.format) b q
  part_same q low = bytes_same a b (start (layout_of root.format) q) (size q) (λ j lt. same (start (layout_of root.format) q + j) (omega (arith, low, lt)))

  pub head_same : part_in (layout_of root.format) a (head root.version) ≡ part_in (layout_of root.format) b (head root.version)
  head_same = part_same (head root.version) (head_low (layout_of root.format) root.version bit)

  node_same : (n v : ℕ) → 1 ≤ n → n ≤ 256 → v < 2 → node_in (layout_of root.format) a n v ≡ node_in (layout_of root.format) b n v
  node_same n v least most low = ap node_of (part_same (node n v) (node_low (layout_of root.format) n v least most low))

  -- each node that one selects, the other selects
  selected_same : (g : ℕ) → g ≤ 256 → (n : ℕ) → 1 ≤ n → n ≤ g → selected_node a root n ≡ selected_node b root n
  selected_same g few n least most =
      let nodes : List NodeImage = row (λ k. selected_node b root (k + 1)) g in
      let stands : Matches b root nodes g = table_matches b root nodes g refl in
      let stands_too : Matches a root nodes g = λ m le lt. node_same m (node_version nodes root.version m) le (omega arith) (node_version_bit nodes root.version m bit) ∙ stands m le lt in
      node_is a root nodes g stands_too n least most ∙ sym (node_is b root nodes g stands n least most)

  pub nodes_same : (g : ℕ) → g ≤ 256 → row (λ k. selected_node a root (k + 1)) g ≡ row (λ k. selected_node b root (k + 1)) g
  nodes_same g few = row_same (λ k. selected_node a root (k + 1)) (λ k. selected_node b root (k + 1)) g (λ k lt. selected_same g few (k + 1) (omega arith) (omega arith))

pub table_same : (a b : List ℕ) (root : RootRef) → root.version < 2 → ((p : ℕ) → p < nodes_end (layout_of root.format) → get_or a p 0 ≡ get_or b p 0) → table_of a root ≡ table_of b root
table_same a b root bit same =
    let heads : part_in (layout_of root.format) a (head root.version) ≡ part_in (layout_of root.format) b (head root.version) = head_same a b root bit same in
    elim (cases_Bool (has_form (part_in (layout_of root.format) b (head root.version)))) [
      | inl form ↦
          let few : (head_in b root).greatest ≤ 256 = (sized_few (head_in b root) (form_sized (part_in (layout_of root.format) b (head root.version)) form)).1 in
          let nodes : nodes_in a root ≡ nodes_in b root = ap (λ (bytes : List ℕ). row (λ k. selected_node a root (k + 1)) (head_of bytes).greatest) heads ∙ nodes_same a b root bit same (head_in b root).greatest few in
          λ i. cond (has_form (heads i)) (checked (head_of (heads i)) (nodes i) root) (Err (BadHead (head_of (heads i)).length (head_of (heads i)).greatest))
      | inr none ↦
          table_unformed a root (ap has_form heads ∙ none) ∙ (λ i. Err (BadHead (head_of (heads i)).length (head_of (heads i)).greatest)) ∙ sym (table_unformed b root none)
    ]

-- what was read of a file's first bytes makes the table that the file's bytes make
pub table_read : (seen into reads : List ℕ) (root : RootRef) (size : ℕ) → root.version < 2 → size ≡ nodes_end (layout_of root.format) → into ≡ bytes_at reads 0 size → seen ≡ into → table_of seen root ≡ table_of reads root
table_read seen into reads root size bit wide got is =
    table_same seen reads root bit (λ p lt. ap (λ (l : List ℕ). get_or l p 0) (is ∙ got) ∙ get_or-bytes_at reads 0 size p (omega (arith, lt, wide)) ∙ ap (λ (k : ℕ). get_or reads k 0) (zero-add p))
