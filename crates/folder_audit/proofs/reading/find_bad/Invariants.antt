use Rattle.std.proofs.Common.{◌≡◌, ◌+◌}
use Rattle.disk_model.specs.Calls.{Rests}
use Rattle.htree_file.specs.Answers.{FilePassed}
use Rattle.folder_audit.specs.Objects.{FindsBad}
use Rattle.folder_audit.proofs.reading.find_bad.Given as goal

abbrev pub invariant-loop-k : goal.invariant-loop-k
invariant-loop-k g l = record {
  same : l.object ≡ record l.fn.object { tree = record l.fn.object.tree { file = l.object.tree.file } };
  rests : Rests (g.G.StoreFile.state l.fn.object.tree.file) (g.G.StoreFile.state l.object.tree.file);
  passed : FilePassed (g.G.StoreFile.state l.fn.object.tree.file) (g.G.StoreFile.state l.object.tree.file);
  finds : FindsBad l.fn.object.tree.key l.fn.object.tree.tree (g.G.StoreFile.state l.fn.object.tree.file) (g.G.StoreFile.state l.object.tree.file) (l.k + 1) l.bad;
}
