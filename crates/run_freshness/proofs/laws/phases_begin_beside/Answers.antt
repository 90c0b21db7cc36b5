use Rattle.run_freshness.proofs.Taken.{phases_begin_beside}
use Rattle.run_freshness.proofs.laws.phases_begin_beside.Goals as goal

pub returns : goal.returns
returns g c = phases_begin_beside g.F.StoreFile.state g.R.RpmbPort.state (g.E.Entropy.is_reliable c.args.entropy.now) g.met.F.StoreFile.sound
