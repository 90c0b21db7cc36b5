use Rattle.std.proofs.Common.{◌≡◌}
use Rattle.disk_model.specs.Calls.{Rests}
use Rattle.htree_file.specs.Answers.{FilePassed}
use Rattle.block_file.specs.NewPages.{AreNewPages}
use Rattle.block_file.proofs.file.BlockFile.new_pages.Given as goal

abbrev pub invariant-loop-k : goal.invariant-loop-k
invariant-loop-k g l = record {
  same : l.self ≡ record l.initial.self { file = l.self.file };
  rests : Rests (g.F.StoreFile.state l.initial.self.file) (g.F.StoreFile.state l.self.file);
  passed : FilePassed (g.F.StoreFile.state l.initial.self.file) (g.F.StoreFile.state l.self.file);
  made : AreNewPages l.initial.self.key l.initial.self.tree (g.F.StoreFile.state l.initial.self.file) (g.F.StoreFile.state l.self.file)
      l.range l.at l.bytes l.changes.items l.first l.k;
}
