use Rattle.std.proofs.Common.{◌≡◌, None, Some, sym, subst, ℕ}
use Rattle.store_commit.specs.Gates.{file_in_doubt}
use Rattle.store_commit.specs.Holds.{IsLeastFreeFile, file_held}
use Rattle.store_commit.proofs.HoldLists.{free_apart, reserved, taken_more}
use Rattle.store_commit.proofs.gate.Gate.reserve_file.Goals as goal

pub invariant_of-self : goal.invariant_of-self
invariant_of-self g c =
    let i = c.self.inside in
    let file : ℕ = c.free_file-file.result in
    let idle = subst (λ v. file_held v.holds c.args.session ≡ None) (sym c.self.view_is) c.requires.idle.1 in
    let least = subst (λ e. IsLeastFreeFile e i.holds file) c.entries.ensures.entries c.free_file-file.ensures in
    record {
      stands = c.self.invariant.stands;
      names = c.self.invariant.names;
      due = c.self.invariant.due;
      held = reserved i.dir.dir.entries i.holds c.args.session file least.free c.self.invariant.held;
      taken = taken_more i.dir.dir.entries i.holds c.args.session (Some file) (file_in_doubt i.doubt) idle c.self.invariant.taken;
    }

pub returns-clause-undoubted : goal.returns-clause-undoubted
returns-clause-undoubted g c =
    let i = c.self.inside in
    let file : ℕ = c.free_file-file.result in
    let least = subst (λ e. IsLeastFreeFile e i.holds file) c.entries.ensures.entries c.free_file-file.ensures in
    rw (← c.self.view_is) (free_apart i.dir.dir.entries i.holds file (file_in_doubt i.doubt) least.free c.self.invariant.taken)
