use Rattle.htree_file.proofs.Firmness.{opens_alike}
use Rattle.htree_file.proofs.laws.firm_opens_alike.Goals as goal

pub returns : goal.returns
returns c = opens_alike
