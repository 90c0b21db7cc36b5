use Rattle.trusted_storage.proofs.Certified.{certificates}
use Rattle.trusted_storage.proofs.laws.certificates_hold.Goals as goal

pub returns : goal.returns
returns c = certificates
