use Rattle.run_acts.proofs.CrashedLaws.{crashes_keep}
use Rattle.run_acts.proofs.device_laws.crashes_keep.Goals as goal

pub returns : goal.returns
returns c = crashes_keep
