-- The lemma is the law.
use Rattle.commit_gate.proofs.EntryCalls.{entry_calls}
use Rattle.commit_gate.proofs.reply_laws.entry_calls_are_on_files.Goals as goal

pub returns : goal.returns
returns g c = entry_calls g.row.F.Denot g.row.R.Denot
