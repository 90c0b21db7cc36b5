use Rattle.std.proofs.Common.{subst, arith}
use Rattle.store_commit.specs.NameIndex.{IsIndexOf}
use Rattle.store_commit.proofs.HoldLists.{no_holds}
use Rattle.store_commit.proofs.gate.Gate.new.Goals as goal

pub invariant_of-result : goal.invariant_of-result
invariant_of-result g c = record {
  stands = c.requires.settled;
  due = omega arith;
  taken = tt;
  names = subst (IsIndexOf c.in-Ok.index) c.entries.ensures.entries c.in-Ok.ensures;
  held = no_holds c.args.dir.dir.entries 16;
}
