use Rattle.trusted_storage.proofs.Chained.{next_found}
use Rattle.trusted_storage.proofs.laws.next_runs_find_left.Goals as goal

pub returns : goal.returns
returns g c = λ was source before behind held sink empty full.
    next_found g.F.StoreFile.state g.R.RpmbPort.state g.F.FileRig.crash_image (g.E.Entropy.is_reliable c.args.entropy.now) (g.E.Entropy.is_reliable c.args.later.now) _ _
