use Rattle.run_freshness.proofs.Mounts.{mounts_fresh}
use Rattle.run_freshness.proofs.laws.mounts_are_fresh.Goals as goal

pub returns : goal.returns
returns g c = mounts_fresh g.F.StoreFile.state g.R.RpmbPort.state g.met.F.StoreFile.sound
