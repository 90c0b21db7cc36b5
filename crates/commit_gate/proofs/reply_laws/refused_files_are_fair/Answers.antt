-- The lemma is the law.
use Rattle.commit_gate.proofs.FairAnswers.{refused_files}
use Rattle.commit_gate.proofs.reply_laws.refused_files_are_fair.Goals as goal

pub returns : goal.returns
returns c = refused_files
