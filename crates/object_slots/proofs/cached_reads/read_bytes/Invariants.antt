use Rattle.std.proofs.Common.{◌≡◌, ◌-◌, ◌≤◌, ℕ, get_or}
use Rattle.disk_model.specs.Calls.{Rests}
use Rattle.htree_file.specs.Answers.{FilePassed}
use Rattle.page_bytes.specs.Ranges.{first_block}
use Rattle.block_file.specs.Parts.{AreRead}
use Rattle.object_slots.specs.CachedPages.{AreKept}
use Rattle.object_slots.specs.SlotReads.{AsksAtMost}
use Rattle.object_slots.proofs.cached_reads.read_bytes.Given as goal

abbrev pub invariant-loop-k : goal.invariant-loop-k
invariant-loop-k g l = record {
  same : l.object ≡ record l.initial.object { tree = record l.initial.object.tree { file = l.object.tree.file } };
  rests : Rests (g.F.StoreFile.state l.initial.object.tree.file) (g.F.StoreFile.state l.object.tree.file);
  passed : FilePassed (g.F.StoreFile.state l.initial.object.tree.file) (g.F.StoreFile.state l.object.tree.file);
  kept : AreKept g.F.StoreFile.state l.object.tree l.pages;
  read : AreRead l.initial.object.tree.key l.initial.object.tree.tree
      (g.F.StoreFile.state l.initial.object.tree.file) (g.F.StoreFile.state l.object.tree.file) l.range l.k l.into;
  asked : AsksAtMost (l.k - first_block l.range) (g.F.StoreFile.state l.initial.object.tree.file) (g.F.StoreFile.state l.object.tree.file);
  rest : (i : ℕ) → l.range.last - l.range.first ≤ i → get_or l.into i 0 ≡ get_or l.initial.into i 0;
}
