-- Nodes that are read one after the other.
use Rattle.std.proofs.Common.{◌≡◌, ℕ, suc, ◌+◌, ◌<◌, List, [], ◌∷◌, ◌++◌, length, take, set, sym, ◌∙◌, ap, arith}
use Rattle.std.proofs.lemmas.List.{take_more_set}
use Rattle.node_image.specs.declared.node.NodeImage.{NodeImage}
use Rattle.node_image.specs.declared.node.RootRef.{RootRef}
use Rattle.node_image.specs.Layout.{node_of}
use Rattle.node_image.specs.Parts.{start, layout_of}
use Rattle.node_image.specs.Parts.Part.{node}
use Rattle.node_image.specs.Tables.{node_version}
use Rattle.node_image.specs.Selection.{bytes_at, node_in, row, selected_node, version_in}
use Rattle.node_image.proofs.Matching.{table_version}

-- the next node, at the version that the nodes so far name
pub read_step : (image : List ℕ) (root : RootRef) (k v at : ℕ) (nodes front : List NodeImage) (read : NodeImage) (bytes : List ℕ) → k < length nodes
    → take k nodes ≡ row (λ m. selected_node image root (m + 1)) k → front ≡ take k nodes
    → v ≡ node_version front root.version (k + 1) → at ≡ start (layout_of root.format) (node (k + 1) v) → bytes ≡ bytes_at image at 66 → read ≡ node_of bytes
    → take (k + 1) (set nodes k read) ≡ row (λ m. selected_node image root (m + 1)) (k + 1)
read_step image root k v at nodes front read bytes lt before is version place held made =
    let same : version_in image root (k + 1) ≡ v = table_version image root front k (is ∙ before) (k + 1) (omega arith) (omega arith) ∙ sym version in
    let here : read ≡ selected_node image root (k + 1) = made ∙ ap node_of (held ∙ ap (λ (p : ℕ). bytes_at image p 66) place) ∙ ap (node_in (layout_of root.format) image (k + 1)) (sym same) in
    let on : suc k ≡ k + 1 = omega arith in
    take_more_set nodes k read lt ∙ (λ i. before i ++ here i ∷ []) ∙ ap (row (λ m. selected_node image root (m + 1))) on
