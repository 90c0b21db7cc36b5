use Rattle.std.proofs.Common.{refl}
use Rattle.host_card.specs.Places.{zeros}
use Rattle.host_card.proofs.kept_card.no_request.Goals as goal

pub returns : goal.returns
unfolding zeros
returns c = refl
