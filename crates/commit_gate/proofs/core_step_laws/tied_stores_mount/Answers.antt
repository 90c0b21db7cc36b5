use Rattle.commit_gate.proofs.GivenPictures.{tied_stores_mount}
use Rattle.commit_gate.proofs.core_step_laws.tied_stores_mount.Goals as goal

pub returns : goal.returns
returns c = tied_stores_mount
