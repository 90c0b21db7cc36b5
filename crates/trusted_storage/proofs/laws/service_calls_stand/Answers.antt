use Rattle.trusted_storage.proofs.Standing.{service_stands}
use Rattle.trusted_storage.proofs.laws.service_calls_stand.Goals as goal

pub returns : goal.returns
returns g c = service_stands g.F.StoreFile.state g.R.RpmbPort.state g.E.Entropy.faults
