use Rattle.std.proofs.Common.{◌∙◌, zero-add}
use Rattle.enumerators.specs.Enumeration.{no_enumerators}
use Rattle.enumerators.proofs.RunLemmas.{CountUp-numbers_given}
use Rattle.enumerators.proofs.laws.numbers_count_up.Goals as goal

pub returns : goal.returns
returns c = λ requests k lt. CountUp-numbers_given no_enumerators requests k lt ∙ zero-add k
