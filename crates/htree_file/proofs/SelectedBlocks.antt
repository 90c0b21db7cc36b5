-- The ciphertexts of a tree that loads from an image are those that its reference selects there.
use Rattle.std.proofs.Common.{◌≡◌, ◌∙◌, ◌+◌, ◌<◌, ℕ, List, [], length, get_or, Ok, sym, ap, arith}
use Rattle.node_image.specs.declared.node.NodeImage.{NodeImage}
use Rattle.node_image.specs.declared.node.RootRef.{RootRef}
use Rattle.node_image.specs.declared.head.Head.{Head}
use Rattle.node_image.specs.Parts.{Layout, layout_of}
use Rattle.node_image.specs.Parts.Part.{block}
use Rattle.node_image.specs.Tables.{block_bit, block_version}
use Rattle.node_image.specs.Selection.{head_in, part_in, selected_node, selected_tree}
use Rattle.node_image.proofs.Matching.{node_is, row_at}
use Rattle.htree_file.specs.Opening.{Loaded, load_of}
use Rattle.htree_file.specs.Pages.{block_in}
use Rattle.htree_file.specs.Selected.{IsLoaded}
use Rattle.htree_file.proofs.Loadings.{loaded_from}

pub selected_block : (image : List ℕ) (root : RootRef) (tree : Loaded) → load_of image root ≡ Ok tree → (k : ℕ) → k < length tree.nodes
    → get_or (selected_tree image root).blocks k [] ≡ block_in image tree k
selected_block image root tree is k lt =
    let l : IsLoaded image root tree = loaded_from image root tree is in
    row_at (λ j. part_in (layout_of root.format) image (block j (block_bit (selected_node image root (j + 1)).flags))) (head_in image root).greatest k []
    (omega (arith, lt, l.hashed.all, ap (λ (h : Head). h.greatest) l.top))
    ∙ ap (λ (n : NodeImage). part_in (layout_of root.format) image (block k (block_bit n.flags))) (node_is image root tree.nodes (length tree.nodes) l.matches (k + 1) (omega arith) (omega (arith, lt)))
    ∙ ap (λ (layout : Layout). part_in layout image (block k (block_version tree.nodes k))) (sym l.hashed.stands)
