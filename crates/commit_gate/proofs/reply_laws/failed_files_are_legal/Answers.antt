-- The lemma is the law.
use Rattle.commit_gate.proofs.FairAnswers.{failed_files}
use Rattle.commit_gate.proofs.reply_laws.failed_files_are_legal.Goals as goal

pub returns : goal.returns
returns c = failed_files
