use Rattle.core_laws.proofs.ToldReplies.{told_replies}
use Rattle.core_laws.proofs.tamper_laws.told_replies_are_answered.Goals as goal

pub returns : goal.returns
returns c = told_replies
