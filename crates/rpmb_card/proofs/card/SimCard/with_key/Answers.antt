use Rattle.std.proofs.Common.{sym, subst, List, ℕ, Some, None, arith}
use Rattle.rpmb_card.specs.Card.{IsCard}
use Rattle.rpmb_card.proofs.Blank.{keyed_sound}
use Rattle.rpmb_card.proofs.card.SimCard.with_key.Goals as goal

pub invariant_of-result : goal.invariant_of-result
invariant_of-result c =
    subst (λ (blocks : List (List ℕ)). IsCard (record { key = Some c.args.key.now; counter = 0; blocks = blocks; register = None }))
    (sym c.zero_blocks.ensures) (keyed_sound c.args.key.now (omega arith))

pub returns-clause-sound : goal.returns-clause-sound
returns-clause-sound c = invariant_of-result c
