use Rattle.store_model.proofs.LeastNames.{enumerators_give_the_least as give}
use Rattle.store_model.proofs.laws.enumerators_give_the_least.Goals as goal

pub returns : goal.returns
returns c = give
