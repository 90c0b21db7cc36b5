use Rattle.std.proofs.Common.{◌-◌, ℕ, get_or, None, Some, Err, sym, ◌∙◌}
use Rattle.htree_file.specs.declared.fault.TreeFault.TheVariants.{Damaged}
use Rattle.node_image.specs.Tables.{no_node}
use Rattle.htree_file.proofs.SameBytes.{unequal_is, unequal_not}
use Rattle.htree_file.proofs.Verdicts.{checked_by, checked_other}
use Rattle.htree_file.proofs.opening.check_hashes.Goals as goal

pub returns-then-ne-clause-err : goal.returns-then-ne-clause-err
returns-then-ne-clause-err c =
    checked_other c.args.head.now c.args.nodes.now c.args.root (unequal_not _ _ c.ne.result c.ne.ensures c.if-ne.true)

pub returns-in-Some-clause-err : goal.returns-in-Some-clause-err
returns-in-Some-clause-err c =
    let n : ℕ = c.in-Some.node in
    checked_by c.args.head.now c.args.nodes.now c.args.root (Some n) (unequal_is _ _ c.ne.result c.ne.ensures c.if-ne.false) c.in-Some.ensures.value
    ∙ (λ i. Err (Damaged n (get_or c.args.nodes.now (n - 1) no_node).hash (sym c.hash_in.ensures i)))

pub returns-in-None-clause-ok : goal.returns-in-None-clause-ok
returns-in-None-clause-ok c =
    checked_by c.args.head.now c.args.nodes.now c.args.root None (unequal_is _ _ c.ne.result c.ne.ensures c.if-ne.false) c.in-None.ensures.value
