use Rattle.std.proofs.Common.{◌*◌}
use Rattle.disk_model.specs.Calls.{Known}
use Rattle.node_image.specs.Parts.{layout_of}
use Rattle.htree_file.specs.Answers.{FilePassed}
use Rattle.htree_file.specs.Changes.{changes_of}
use Rattle.htree_file.specs.Staging.{AreSealed, OffBlocks, SealsAnew, WritesAtMost}
use Rattle.htree_file.proofs.staging.NewVersion.write_pages.Given as goal

abbrev pub invariant-loop-j : goal.invariant-loop-j
invariant-loop-j g l = record {
  writes : WritesAtMost (OffBlocks (layout_of l.self.format) l.initial.table (changes_of l.self.pages)) (4096 * l.j) (g.F.StoreFile.state l.initial.file) (g.F.StoreFile.state l.file);
  passed : FilePassed (g.F.StoreFile.state l.initial.file) (g.F.StoreFile.state l.file);
  anew : SealsAnew (changes_of l.self.pages) l.initial.table l.table;
  sealed : AreSealed (layout_of l.self.format) (Known (g.F.StoreFile.state l.initial.file) (g.F.StoreFile.state l.file)) (g.F.StoreFile.state l.file).reads l.self.key.now l.self.head.now l.table (changes_of l.self.pages) l.j;
}
