use Rattle.run_freshness.proofs.Course.{courses_fresh}
use Rattle.run_freshness.proofs.laws.courses_are_fresh.Goals as goal

pub returns : goal.returns
returns g c = courses_fresh g.F.StoreFile.state g.R.RpmbPort.state g.F.FileRig.crash_image (g.E.Entropy.is_reliable c.args.entropy.now) g.met.F.StoreFile.sound
