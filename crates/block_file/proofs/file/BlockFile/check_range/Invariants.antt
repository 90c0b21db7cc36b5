use Rattle.std.proofs.Common.{◌≡◌, ◌<◌, ℕ, true}
use Rattle.disk_model.specs.Calls.{Rests}
use Rattle.htree_file.specs.Answers.{FilePassed}
use Rattle.page_bytes.specs.Ranges.{needs}
use Rattle.block_file.specs.Reads.{WasRead}
use Rattle.block_file.proofs.file.BlockFile.check_range.Given as goal

abbrev pub invariant-loop-k : goal.invariant-loop-k
invariant-loop-k g l = record {
  same : l.self ≡ record l.initial.self { file = l.self.file };
  rests : Rests (g.F.StoreFile.state l.initial.self.file) (g.F.StoreFile.state l.self.file);
  passed : FilePassed (g.F.StoreFile.state l.initial.self.file) (g.F.StoreFile.state l.self.file);
  read : (j : ℕ) → j < l.k → needs l.range j ≡ true
      → WasRead l.initial.self.key l.initial.self.tree (g.F.StoreFile.state l.initial.self.file) (g.F.StoreFile.state l.self.file) j;
}
