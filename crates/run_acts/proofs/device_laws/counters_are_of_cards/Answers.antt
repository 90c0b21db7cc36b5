use Rattle.run_acts.proofs.PhasesLeft.{counters_are_of_cards}
use Rattle.run_acts.proofs.device_laws.counters_are_of_cards.Goals as goal

pub returns : goal.returns
returns g c = counters_are_of_cards g.F.StoreFile.state g.R.RpmbPort.state (g.E.Entropy.is_reliable c.args.entropy.now)
