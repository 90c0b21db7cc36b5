use Rattle.std.proofs.Common.{◌≡◌, true, arith, rules}
use Rattle.node_image.specs.Parts.{layout_of}
use Rattle.tree_paths.specs.Paths.{holds}
use Rattle.htree_file.proofs.SealSteps.{chosen_write}
use Rattle.htree_file.proofs.staging.NewVersion.write_chosen.Goals as goal

pub returns-in_err-write_node-clause-writes : goal.returns-in_err-write_node-clause-writes
returns-in_err-write_node-clause-writes g c =
    let hit : holds c.args.self.now.set.nodes c.args.n ≡ true = search rules in
    chosen_write (layout_of c.args.self.now.format) c.args.table.now c.args.self.now.root (omega arith) (omega arith) (holds c.args.self.now.set.nodes) _ _ c.args.n _ (omega arith) (omega arith) hit c.node_version-version.ensures.value c.write_node.ensures.writes

pub returns-clause-writes : goal.returns-clause-writes
returns-clause-writes g c =
    let hit : holds c.args.self.now.set.nodes c.args.n ≡ true = search rules in
    chosen_write (layout_of c.args.self.now.format) c.args.table.now c.args.self.now.root (omega arith) (omega arith) (holds c.args.self.now.set.nodes) _ _ c.args.n _ (omega arith) (omega arith) hit c.node_version-version.ensures.value c.write_node.ensures.writes
