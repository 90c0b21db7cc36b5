use Rattle.tree_paths.specs.Paths.{holds}
use Rattle.htree_file.specs.WriteSets.{AreTurned}
use Rattle.htree_file.proofs.write_set.WriteSet.turn_nodes.Given as goal

abbrev pub invariant-loop-k : goal.invariant-loop-k
invariant-loop-k l = AreTurned l.nodes (holds l.self.nodes) (holds l.self.blocks) l.next l.k
