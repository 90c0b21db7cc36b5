use Rattle.freshness_laws.proofs.Pages.{pages_agree}
use Rattle.freshness_laws.proofs.laws.read_pages_agree.Goals as goal

pub returns : goal.returns
returns c = pages_agree
