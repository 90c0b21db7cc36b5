use Rattle.std.proofs.Common.{sym, subst, List, ℕ, None}
use Rattle.rpmb_card.specs.Card.{IsCard}
use Rattle.rpmb_card.proofs.Blank.{blank_sound}
use Rattle.rpmb_card.proofs.card.SimCard.blank.Goals as goal

pub invariant_of-result : goal.invariant_of-result
invariant_of-result c =
    subst (λ (blocks : List (List ℕ)). IsCard (record { key = None; counter = 0; blocks = blocks; register = None }))
    (sym c.zero_blocks.ensures) blank_sound

pub returns-clause-sound : goal.returns-clause-sound
returns-clause-sound c = invariant_of-result c
