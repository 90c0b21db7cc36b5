-- The lemma is the law.
use Rattle.commit_gate.proofs.FairAnswers.{told_files}
use Rattle.commit_gate.proofs.reply_laws.told_files_are_fair.Goals as goal

pub returns : goal.returns
returns c = told_files
