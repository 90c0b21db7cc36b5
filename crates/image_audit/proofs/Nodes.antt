-- Nodes that are read one after the other.
use Rattle.std.proofs.Common.{◌≡◌, ◌+◌, ◌*◌, ◌<◌, ℕ, suc, List, [], ◌∷◌, ◌++◌, length, set, take, ap, ◌∙◌, arith}
use Rattle.std.proofs.lemmas.List.{take_more_set}
use Rattle.byte_fields.specs.Field.{field}
use Rattle.node_image.specs.Layout.{node_of}
use Rattle.node_image.specs.Selection.{row}
use Rattle.node_image.specs.declared.node.NodeImage.{NodeImage}

-- one node more is read
pub node_step : (bytes : List ℕ) (at k : ℕ) (nodes : List NodeImage) (read : NodeImage) → k < length nodes
    → take k nodes ≡ row (λ n. node_of (field (at + 66 * n) 66 bytes)) k → read ≡ node_of (field (at + 66 * k) 66 bytes)
    → take (k + 1) (set nodes k read) ≡ row (λ n. node_of (field (at + 66 * n) 66 bytes)) (k + 1)
node_step bytes at k nodes read lt before here =
    let on : suc k ≡ k + 1 = omega arith in
    take_more_set nodes k read lt ∙ (λ i. before i ++ here i ∷ []) ∙ ap (row (λ n. node_of (field (at + 66 * n) 66 bytes))) on
