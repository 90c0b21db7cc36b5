use Rattle.commit_gate.proofs.Journals.{openings}
use Rattle.commit_gate.proofs.journal_laws.openings_are_journals.Goals as goal

pub returns : goal.returns
returns c = openings
