use Rattle.store_commit.proofs.Indexing.{IsIndexUpto}
use Rattle.store_commit.proofs.mount.index_of_entries.Given as goal

abbrev pub invariant-loop-i : goal.invariant-loop-i
invariant-loop-i l = IsIndexUpto l.index l.entries l.i
