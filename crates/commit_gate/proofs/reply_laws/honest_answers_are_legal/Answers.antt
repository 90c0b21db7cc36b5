-- The lemma is the law.
use Rattle.commit_gate.proofs.Honest.{honest_answers}
use Rattle.commit_gate.proofs.reply_laws.honest_answers_are_legal.Goals as goal

pub returns : goal.returns
returns c = honest_answers
