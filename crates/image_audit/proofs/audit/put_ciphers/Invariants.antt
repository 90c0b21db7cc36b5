use Rattle.std.proofs.Common.{◌≡◌}
use Rattle.disk_model.specs.Calls.{Rests}
use Rattle.htree_file.specs.Answers.{FilePassed}
use Rattle.image_audit.specs.Audited.{PutsCiphers}
use Rattle.image_audit.proofs.audit.put_ciphers.Given as goal

abbrev pub invariant-loop-k : goal.invariant-loop-k
invariant-loop-k g l = record {
  same : l.tree ≡ record l.fn.tree { file = l.tree.file };
  rests : Rests (g.F.StoreFile.state l.fn.tree.file) (g.F.StoreFile.state l.tree.file);
  passed : FilePassed (g.F.StoreFile.state l.fn.tree.file) (g.F.StoreFile.state l.tree.file);
  puts : PutsCiphers (g.F.StoreFile.state l.fn.tree.file) (g.F.StoreFile.state l.tree.file) l.fn.tree.tree l.k l.fn.out.items l.out.items;
}
