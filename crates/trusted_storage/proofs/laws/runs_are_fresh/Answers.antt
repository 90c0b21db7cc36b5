use Rattle.run_freshness.proofs.Runs.{runs_fresh}
use Rattle.trusted_storage.proofs.laws.runs_are_fresh.Goals as goal

pub returns : goal.returns
returns g c = λ was source held sink call closed has.
    runs_fresh g.F.StoreFile.state g.R.RpmbPort.state g.F.FileRig.crash_image (g.E.Entropy.is_reliable c.args.entropy.now) _ g.met.F.StoreFile.sound call.left_old call.left_new call.held_old call.held_new call.drew
    call.draws call.keys closed call.handed call.given call.status has call.says
