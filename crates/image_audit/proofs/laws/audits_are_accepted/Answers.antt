use Rattle.image_audit.proofs.Accepted.{audits_accepted}
use Rattle.image_audit.proofs.laws.audits_are_accepted.Goals as goal

pub returns : goal.returns
returns c = audits_accepted
