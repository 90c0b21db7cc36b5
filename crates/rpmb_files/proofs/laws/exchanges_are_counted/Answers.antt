use Rattle.rpmb_files.proofs.Exchanged.{exchanges_counted}
use Rattle.rpmb_files.proofs.laws.exchanges_are_counted.Goals as goal

pub returns-clause-counted : goal.returns-clause-counted
returns-clause-counted c = exchanges_counted
