use Rattle.std.proofs.Common.{◌≡◌, ◌||◌, Bool, true, false, get_or, replicate, ap, ◌∙◌, refl}
use Rattle.std.specs.Prelude.{nat_lt}
use Rattle.std.proofs.lemmas.List.{get_or-replicate}
use Rattle.card_maps.proofs.table.CardTable.new.Goals as goal

or_none : (x : Bool) → (x || false) ≡ x
or_none true = refl
or_none false = refl

pub returns-clause-used : goal.returns-clause-used
returns-clause-used c d lt = c.use_first.ensures d lt ∙ ap (λ (x : Bool). nat_lt d 2 || x) (get_or-replicate 256 d false true lt) ∙ or_none (nat_lt d 2)
