use Rattle.store_commit.proofs.Indexing.{IsIndexUpto}
use Rattle.folder_audit.proofs.order.names_of.Given as goal

abbrev pub invariant-loop-i : goal.invariant-loop-i
invariant-loop-i l = IsIndexUpto l.index l.entries l.i
