use Rattle.std.proofs.Common.{sym, subst}
use Rattle.store_commit.specs.Gates.{file_in_doubt}
use Rattle.store_commit.specs.Holds.{AreApart, file_held}
use Rattle.store_commit.proofs.HoldLists.{released, taken_fewer}
use Rattle.store_commit.proofs.gate.Gate.release_file.Goals as goal

pub invariant_of-self : goal.invariant_of-self
invariant_of-self g c =
    let i = c.self.inside in
    let apart = subst (λ v. AreApart (file_held v.holds c.args.session) (file_in_doubt v.doubt)) (sym c.self.view_is) c.requires.undoubted in
    record {
      stands = c.self.invariant.stands;
      names = c.self.invariant.names;
      due = c.self.invariant.due;
      held = released i.dir.dir.entries i.holds c.args.session c.self.invariant.held;
      taken = taken_fewer i.dir.dir.entries i.holds c.args.session (file_in_doubt i.doubt) apart c.self.invariant.taken;
    }
