use Rattle.store_commit.specs.Marks.{AreMarked, file_named}
use Rattle.store_commit.proofs.marks.mark_named.Given as goal

abbrev pub invariant-loop-index : goal.invariant-loop-index
invariant-loop-index l = AreMarked (file_named l.entries) l.index l.initial.marks l.marks
