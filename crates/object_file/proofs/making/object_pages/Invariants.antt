use Rattle.std.proofs.Common.{◌≡◌, length}
use Rattle.object_file.specs.Making.{AreObjectPages}
use Rattle.object_file.proofs.making.object_pages.Given as goal

abbrev pub invariant-loop-k : goal.invariant-loop-k
invariant-loop-k l = record {
  count : length l.pages.items ≡ l.k;
  pages : AreObjectPages l.attributes l.bytes l.pages.items l.k;
}
