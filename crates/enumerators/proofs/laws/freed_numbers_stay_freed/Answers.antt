use Rattle.enumerators.proofs.RunLemmas.{cursor_at-after_all}
use Rattle.enumerators.proofs.laws.freed_numbers_stay_freed.Goals as goal

pub returns : goal.returns
returns c = λ table requests number below none. cursor_at-after_all number table requests below none
