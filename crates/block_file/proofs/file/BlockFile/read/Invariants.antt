use Rattle.std.proofs.Common.{◌≡◌, ◌-◌, ◌≤◌, ℕ, get_or, IsTrue}
use Rattle.disk_model.specs.Calls.{Rests}
use Rattle.htree_file.specs.Answers.{FilePassed}
use Rattle.page_bytes.specs.Ranges.{first_block}
use Rattle.block_file.specs.Parts.{AreRead}
use Rattle.block_file.specs.Reads.{after_calls}
use Rattle.block_file.proofs.file.BlockFile.read.Given as goal

abbrev pub invariant-loop-k : goal.invariant-loop-k
invariant-loop-k g l = record {
  same : l.self ≡ record l.initial.self { file = l.self.file };
  rests : Rests (g.F.StoreFile.state l.initial.self.file) (g.F.StoreFile.state l.self.file);
  passed : FilePassed (g.F.StoreFile.state l.initial.self.file) (g.F.StoreFile.state l.self.file);
  read : AreRead l.initial.self.key l.initial.self.tree (g.F.StoreFile.state l.initial.self.file) (g.F.StoreFile.state l.self.file) l.range l.k l.into;
  counted : IsTrue (g.F.StoreFile.state l.initial.self.file).tells_arms
      → (g.F.StoreFile.state l.self.file).arms ≡ after_calls (l.k - first_block l.range) (g.F.StoreFile.state l.initial.self.file).arms;
  rest : (i : ℕ) → l.range.last - l.range.first ≤ i → get_or l.into i 0 ≡ get_or l.initial.into i 0;
}
