use Rattle.run_freshness.proofs.Mounts.{mounts_same_entries}
use Rattle.run_freshness.proofs.laws.mounts_have_same_entries.Goals as goal

pub returns : goal.returns
returns g c = mounts_same_entries g.F.StoreFile.state g.R.RpmbPort.state g.met.F.StoreFile.sound
