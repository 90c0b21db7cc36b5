use Rattle.run_acts.proofs.Untainted.{phases_stay_untainted}
use Rattle.run_acts.proofs.untainted_laws.phases_stay_untainted.Goals as goal

pub returns : goal.returns
returns g c = phases_stay_untainted g.F.StoreFile.state g.R.RpmbPort.state (g.E.Entropy.is_reliable c.args.entropy.now)
