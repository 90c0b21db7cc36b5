use Rattle.folder_audit.proofs.Certificates.{audited_hold}
use Rattle.folder_audit.proofs.laws.audited_objects_hold.Goals as goal

pub returns : goal.returns
returns c = audited_hold
