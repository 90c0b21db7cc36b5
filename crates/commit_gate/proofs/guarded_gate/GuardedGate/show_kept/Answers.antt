use Rattle.std.proofs.Common.{refl, subst}
use Rattle.history_seats.specs.Rule.{PassFits}
use Rattle.commit_gate.specs.GuardedGates.{GuardedGateValue}
use Rattle.commit_gate.proofs.guarded_gate.GuardedGate.show_kept.Goals as goal

pub returns-clause-fits : goal.returns-clause-fits
returns-clause-fits g c =
    subst (λ (v : GuardedGateValue g.row.F.Denot g.row.R.Denot). PassFits v.journal.knows c.args.half.knows) c.self.view_is
    (c.show_kept.ensures.agreed.kept c.args.half.knows refl).0
