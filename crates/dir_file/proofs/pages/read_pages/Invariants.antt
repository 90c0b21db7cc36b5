use Rattle.std.proofs.Common.{◌≡◌, length, min}
use Rattle.disk_model.specs.Calls.{Rests}
use Rattle.htree_file.specs.Answers.{FilePassed}
use Rattle.htree_file.specs.Standing.{Told}
use Rattle.dir_file.specs.Calls.{ReadsBlocks}
use Rattle.dir_file.specs.Pages.{ArePages, AreSeen}
use Rattle.dir_file.proofs.pages.read_pages.Given as goal

abbrev pub invariant-loop-k : goal.invariant-loop-k
invariant-loop-k g l = record {
  same : l.tree ≡ record l.initial.tree { file = l.tree.file };
  rests : Rests (g.F.StoreFile.state l.initial.tree.file) (g.F.StoreFile.state l.tree.file);
  passed : FilePassed (g.F.StoreFile.state l.initial.tree.file) (g.F.StoreFile.state l.tree.file);
  long : length l.pages.items ≡ min 8 l.k;
  pages : Told (g.F.StoreFile.state l.initial.tree.file) (g.F.StoreFile.state l.tree.file)
      → ArePages (g.F.StoreFile.state l.initial.tree.file).reads l.initial.tree.key l.initial.tree.tree l.pages.items l.k;
  seen : AreSeen (g.F.StoreFile.state l.initial.tree.file) (g.F.StoreFile.state l.tree.file) l.initial.tree.key l.initial.tree.tree l.pages.items;
  once : ReadsBlocks (g.F.StoreFile.state l.initial.tree.file) (g.F.StoreFile.state l.tree.file) l.k;
}
