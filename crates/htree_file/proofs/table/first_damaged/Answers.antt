use Rattle.std.proofs.Common.{◌≡◌, ◌+◌, ◌-◌, ℕ, List, length, get_or, sym, ◌∙◌, ap, arith}
use Rattle.node_image.specs.declared.node.NodeImage.{NodeImage}
use Rattle.node_image.specs.Tables.{at_node, no_node}
use Rattle.htree_file.proofs.Damage.{damaged_here, damaged_not}
use Rattle.htree_file.proofs.SameBytes.{unequal_is, unequal_not}
use Rattle.htree_file.proofs.table.first_damaged.Goals as goal

-- the entry at an index is the node of the next number
entry : (nodes : List NodeImage) (i : ℕ) → at_node nodes (i + 1) ≡ get_or nodes i no_node
entry nodes i = let e : (i + 1) - 1 ≡ i = omega arith in ap (λ (j : ℕ). get_or nodes j no_node) e

pub returns-then-ne-clause-value : goal.returns-then-ne-clause-value
returns-then-ne-clause-value c =
    let nodes = c.args.nodes.now in
    sym (c.loop-i.invariant ∙ damaged_here c.args.head.now nodes (length nodes) c.loop-i.i c.loop-i-test.true
    (λ is. unequal_not _ _ c.ne.result c.ne.ensures c.if-ne.true (ap (λ (x : NodeImage). x.hash) (sym (entry nodes c.loop-i.i)) ∙ is ∙ sym c.hash_in.ensures)))

pub loop-i-preserved : goal.loop-i-preserved
loop-i-preserved c =
    let nodes = c.args.nodes.now in
    c.loop-i.invariant ∙ damaged_not c.args.head.now nodes (length nodes) c.loop-i.i c.loop-i-test.true
    (ap (λ (x : NodeImage). x.hash) (entry nodes c.loop-i.i) ∙ unequal_is _ _ c.ne.result c.ne.ensures c.if-ne.false ∙ c.hash_in.ensures)
