use Rattle.store_commit.proofs.HoldLists.{AreDropped}
use Rattle.store_commit.proofs.holds.drop_file.Given as goal

abbrev pub invariant-loop-session : goal.invariant-loop-session
invariant-loop-session l = AreDropped l.file l.initial.holds l.holds l.session
