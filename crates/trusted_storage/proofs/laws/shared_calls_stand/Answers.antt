use Rattle.trusted_storage.proofs.Standing.{shared_stands}
use Rattle.trusted_storage.proofs.laws.shared_calls_stand.Goals as goal

pub returns : goal.returns
returns g c = shared_stands g.row.E.Denot g.row.X.Denot
