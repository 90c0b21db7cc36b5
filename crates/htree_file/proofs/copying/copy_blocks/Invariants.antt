use Rattle.std.proofs.Common.{◌≡◌, length}
use Rattle.disk_model.specs.Calls.{Known}
use Rattle.htree_file.specs.Copies.{AreFlags, BothPassed, CopyRun, IsCopyOf}
use Rattle.htree_file.specs.Standing.{Told}
use Rattle.htree_file.proofs.copying.copy_blocks.Given as goal

abbrev pub invariant-loop-k : goal.invariant-loop-k
invariant-loop-k g l = record {
  run : CopyRun (g.F.StoreFile.state l.fn.from) (g.F.StoreFile.state l.from) (g.F.StoreFile.state l.fn.to) (g.F.StoreFile.state l.to);
  passed : BothPassed (g.F.StoreFile.state l.fn.from) (g.F.StoreFile.state l.from) (g.F.StoreFile.state l.fn.to) (g.F.StoreFile.state l.to);
  end : Told (g.F.StoreFile.state l.fn.from) (g.F.StoreFile.state l.from) → l.end ≡ length (g.F.StoreFile.state l.fn.from).reads;
  copied : Told (g.F.StoreFile.state l.fn.from) (g.F.StoreFile.state l.from) → Known (g.F.StoreFile.state l.fn.to) (g.F.StoreFile.state l.to)
      → AreFlags (g.F.StoreFile.state l.fn.from).reads l.root l.flags (length l.flags)
      → IsCopyOf (g.F.StoreFile.state l.fn.from).reads (g.F.StoreFile.state l.fn.to).reads l.root l.format (length l.flags) 0
      → IsCopyOf (g.F.StoreFile.state l.fn.from).reads (g.F.StoreFile.state l.to).reads l.root l.format (length l.flags) l.k;
}
