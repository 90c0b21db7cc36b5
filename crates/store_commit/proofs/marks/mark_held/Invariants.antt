use Rattle.store_commit.specs.Holds.{file_held}
use Rattle.store_commit.specs.Marks.{AreMarked}
use Rattle.store_commit.proofs.marks.mark_held.Given as goal

abbrev pub invariant-loop-session : goal.invariant-loop-session
invariant-loop-session l = AreMarked (file_held l.holds) l.session l.initial.marks l.marks
