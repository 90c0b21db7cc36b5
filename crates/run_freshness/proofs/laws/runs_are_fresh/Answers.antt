use Rattle.run_freshness.proofs.Runs.{runs_fresh}
use Rattle.run_freshness.proofs.laws.runs_are_fresh.Goals as goal

pub returns : goal.returns
returns g c = λ was source held sink. runs_fresh g.F.StoreFile.state g.R.RpmbPort.state g.F.FileRig.crash_image (g.E.Entropy.is_reliable c.args.entropy.now) _ g.met.F.StoreFile.sound
