use Rattle.run_acts.proofs.Opened.{formed_benches_hold_none}
use Rattle.run_acts.proofs.device_laws.formed_benches_hold_none.Goals as goal

pub returns : goal.returns
returns c = formed_benches_hold_none
