use Rattle.std.proofs.Common.{arith}
use Rattle.htree_file.proofs.SealSteps.{turned_step}
use Rattle.htree_file.proofs.write_set.WriteSet.turn_nodes.Goals as goal

pub loop-k-preserved : goal.loop-k-preserved
loop-k-preserved c = turned_step c.args.nodes.now c.loop-k.next _ _ c.loop-k.k _ (omega arith) c.turned_node-node.ensures c.loop-k.invariant
