use Rattle.freshness_laws.proofs.Pictures.{pictures_hold}
use Rattle.freshness_laws.proofs.laws.pictures_hold_stores.Goals as goal

pub returns : goal.returns
returns c = pictures_hold
