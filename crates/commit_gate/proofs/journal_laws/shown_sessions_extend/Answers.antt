use Rattle.commit_gate.proofs.ShownViews.{shown_extend}
use Rattle.commit_gate.proofs.journal_laws.shown_sessions_extend.Goals as goal

pub returns : goal.returns
returns c = shown_extend
