use Rattle.commit_gate.proofs.ShownViews.{fresh_caller}
use Rattle.commit_gate.proofs.journal_laws.fresh_sessions_are_callers.Goals as goal

pub returns : goal.returns
returns g c = fresh_caller g.row.E.Denot
