-- What the tests of a head and its nodes come to.
use Rattle.std.proofs.Common.{◌≡◌, ◌≢◌, ℕ, ◌+◌, List, length, true, false, Option, Err, sym, ◌∙◌, ap}
use Rattle.std.proofs.lemmas.Bool.{cond-true, cond-false}
use Rattle.std.specs.Str.{bytes_eq}
use Rattle.node_image.specs.Parts.{layout_of}
use Rattle.node_image.specs.declared.node.NodeImage.{NodeImage}
use Rattle.node_image.specs.declared.node.RootRef.{RootRef}
use Rattle.node_image.specs.declared.head.Head.{Head}
use Rattle.node_image.specs.Layout.{has_form}
use Rattle.node_image.specs.Parts.Part.{head}
use Rattle.node_image.specs.Tables.{at_node}
use Rattle.node_image.specs.Selection.{head_in, nodes_in, part_in, row, selected_node}
use Rattle.htree_file.specs.declared.fault.TreeFault.TheVariants.{BadHead, Damaged}
use Rattle.htree_file.specs.Opening.{checked, first_damaged, or_damaged, table_of}
use Rattle.htree_file.proofs.SameBytes.{same_from, same_not}

module _ (h : Head) (nodes : List NodeImage) (root : RootRef) where
  -- the root's hash is another
  pub checked_other : (at_node nodes 1).hash ≢ root.hash → checked h nodes root ≡ Err (Damaged 1 root.hash (at_node nodes 1).hash)
  checked_other other = cond-false (bytes_eq (at_node nodes 1).hash root.hash) _ _ (same_not (at_node nodes 1).hash root.hash other)

  -- the root's hash is the reference's: the first damaged node decides
  pub checked_by : (o : Option ℕ) → (at_node nodes 1).hash ≡ root.hash → o ≡ first_damaged h nodes 1 (length nodes) → checked h nodes root ≡ or_damaged (layout_of root.format) h nodes o
  checked_by o same first = cond-true (bytes_eq (at_node nodes 1).hash root.hash) _ _ (same_from (at_node nodes 1).hash root.hash same) ∙ ap (or_damaged (layout_of root.format) h nodes) (sym first)

module _ (image : List ℕ) (root : RootRef) (h : Head) (is : h ≡ head_in image root) where
  -- the head has its form: its nodes decide
  pub table_checked : (nodes : List NodeImage) → has_form (part_in (layout_of root.format) image (head root.version)) ≡ true
      → nodes ≡ row (λ k. selected_node image root (k + 1)) h.greatest → table_of image root ≡ checked h nodes root
  table_checked nodes form read =
      cond-true (has_form (part_in (layout_of root.format) image (head root.version))) (checked (head_in image root) (nodes_in image root) root) (Err (BadHead (head_in image root).length (head_in image root).greatest)) form
      ∙ (λ i. checked (sym is i) ((ap (λ (g : ℕ). row (λ k. selected_node image root (k + 1)) g) (ap (λ (x : Head). x.greatest) (sym is)) ∙ sym read) i) root)

-- it has not
pub table_unformed : (image : List ℕ) (root : RootRef) → has_form (part_in (layout_of root.format) image (head root.version)) ≡ false
    → table_of image root ≡ Err (BadHead (head_in image root).length (head_in image root).greatest)
table_unformed image root form = cond-false (has_form (part_in (layout_of root.format) image (head root.version))) (checked (head_in image root) (nodes_in image root) root) _ form
