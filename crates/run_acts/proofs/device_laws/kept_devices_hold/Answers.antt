use Rattle.run_acts.proofs.CrashedLaws.{kept_devices_hold}
use Rattle.run_acts.proofs.device_laws.kept_devices_hold.Goals as goal

pub returns : goal.returns
returns c = kept_devices_hold
