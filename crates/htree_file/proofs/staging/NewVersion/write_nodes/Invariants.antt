use Rattle.std.proofs.Common.{◌*◌}
use Rattle.disk_model.specs.Calls.{Known}
use Rattle.tree_paths.specs.Paths.{holds}
use Rattle.tree_paths.specs.Staged.{count_to}
use Rattle.node_image.specs.Parts.{layout_of}
use Rattle.htree_file.specs.Answers.{FilePassed}
use Rattle.htree_file.specs.Staging.{NodesStand, OffNodes, WritesAtMost}
use Rattle.htree_file.proofs.staging.NewVersion.write_nodes.Given as goal

abbrev pub invariant-loop-k : goal.invariant-loop-k
invariant-loop-k g l = record {
  writes : WritesAtMost (OffNodes (layout_of l.self.format) l.table l.self.root (holds l.self.set.nodes)) (66 * count_to (holds l.self.set.nodes) l.k) (g.F.StoreFile.state l.initial.file) (g.F.StoreFile.state l.file);
  passed : FilePassed (g.F.StoreFile.state l.initial.file) (g.F.StoreFile.state l.file);
  stand : NodesStand (layout_of l.self.format) (Known (g.F.StoreFile.state l.initial.file) (g.F.StoreFile.state l.file)) (g.F.StoreFile.state l.file).reads l.self.root l.table (holds l.self.set.nodes) l.k;
}
