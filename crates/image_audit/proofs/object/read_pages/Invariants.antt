use Rattle.std.proofs.Common.{◌≡◌, ◌-◌, length}
use Rattle.image_audit.specs.Checking.{pages_test}
use Rattle.image_audit.specs.Contents.{HoldsPages, cut_pages}
use Rattle.image_audit.proofs.object.read_pages.Given as goal

abbrev pub invariant-loop-k : goal.invariant-loop-k
invariant-loop-k l = record {
  tested : pages_test (cut_pages l.key l.head l.nodes l.bytes l.at) 0 (length l.nodes) ≡ pages_test (cut_pages l.key l.head l.nodes l.bytes l.at) l.k (length l.nodes - l.k);
  pages : HoldsPages (cut_pages l.key l.head l.nodes l.bytes l.at) l.content.items l.k;
}
