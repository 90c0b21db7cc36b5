use Rattle.disk_model.specs.Calls.{Known}
use Rattle.htree_file.specs.Copies.{AreFlags, BothPassed, CopyRun, IsCopyOf}
use Rattle.htree_file.specs.Standing.{Told}
use Rattle.htree_file.proofs.copying.copy_nodes.Given as goal

abbrev pub invariant-loop-k : goal.invariant-loop-k
invariant-loop-k g l = record {
  run : CopyRun (g.F.StoreFile.state l.initial.from) (g.F.StoreFile.state l.from) (g.F.StoreFile.state l.initial.to) (g.F.StoreFile.state l.to);
  passed : BothPassed (g.F.StoreFile.state l.initial.from) (g.F.StoreFile.state l.from) (g.F.StoreFile.state l.initial.to) (g.F.StoreFile.state l.to);
  flags : Told (g.F.StoreFile.state l.initial.from) (g.F.StoreFile.state l.from) → AreFlags (g.F.StoreFile.state l.initial.from).reads l.root l.flags l.k;
  copied : Told (g.F.StoreFile.state l.initial.from) (g.F.StoreFile.state l.from) → Known (g.F.StoreFile.state l.initial.to) (g.F.StoreFile.state l.to)
      → IsCopyOf (g.F.StoreFile.state l.initial.from).reads (g.F.StoreFile.state l.initial.to).reads l.root l.format 0 0
      → IsCopyOf (g.F.StoreFile.state l.initial.from).reads (g.F.StoreFile.state l.to).reads l.root l.format l.k 0;
}
