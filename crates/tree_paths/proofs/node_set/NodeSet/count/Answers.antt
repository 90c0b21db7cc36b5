use Rattle.std.proofs.Common.{◌≡◌, ◌∙◌, ℕ, ◌+◌, Bool, cond, sym, ap, arith}
use Rattle.tree_paths.specs.Paths.{holds}
use Rattle.tree_paths.specs.Staged.{count_to}
use Rattle.tree_paths.proofs.StagedNodes.{count_next, count_none, one_most}
use Rattle.tree_paths.proofs.node_set.NodeSet.count.Goals as goal
use Rattle.tree_paths.proofs.node_set.NodeSet.count.Goals.{else-has, then-has}

pub loop-n-init : goal.loop-n-init
loop-n-init c = (sym (count_none (holds c.args.self.now)), omega arith)

pub loop-n-preserved : goal.loop-n-preserved
loop-n-preserved c =
    let set = holds c.args.self.now in
    let n = c.loop-n.n in
    let bit : Bool → ℕ = λ t. cond t 1 0 in
    let one : c.if-has.count ≡ bit (set (n + 1)) = elim c.if-has.branch [
      | then-has w ↦ w.count-is ∙ ap bit (sym w.if-has.true ∙ c.has.ensures)
      | else-has w ↦ w.count-is ∙ ap bit (sym w.if-has.false ∙ c.has.ensures)
    ] in
    (omega (arith, c.loop-n.invariant.0, one, count_next set n), omega (arith, c.loop-n.invariant.1, one, one_most (set (n + 1))))

pub returns : goal.returns
returns c = let all : c.loop-n.n ≡ 256 = omega arith in c.loop-n.invariant.0 ∙ ap (count_to (holds c.args.self.now)) all
