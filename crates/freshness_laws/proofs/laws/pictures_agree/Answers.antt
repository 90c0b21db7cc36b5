use Rattle.freshness_laws.proofs.Pictures.{pictures_agree}
use Rattle.freshness_laws.proofs.laws.pictures_agree.Goals as goal

pub returns : goal.returns
returns c = pictures_agree
