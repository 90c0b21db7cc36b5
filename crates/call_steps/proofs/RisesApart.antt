-- Counts that rise, place by place.
use Rattle.std.proofs.Common.{[], ◌∷◌, ◌<◌, slice_index_or, arith, inl, inr, zero, suc}
use Rattle.std.proofs.lemmas.Bool.{cases_lt}
use Rattle.call_steps.specs.Apart.{RisingCountsAreAbove, RisingCountsAreApart, RisingCountsAreBounded}
use Rattle.call_steps.proofs.Rises.{Rise-above}

pub rising-above : RisingCountsAreAbove
rising-above from to [] i d rise within below = absurd (omega (arith, within))
rising-above from to (count ∷ counts) zero d rise within below = omega (arith, rise.0, below)
rising-above from to (count ∷ counts) (suc i) d rise within below =
    let next : count < slice_index_or counts i d = rising-above count to counts i d rise.1 (omega (arith, within)) below in
    omega (arith, rise.0, next, below)

pub rising-apart : RisingCountsAreApart
rising-apart from to [] i j d rise before within below = absurd (omega (arith, within))
rising-apart from to (count ∷ counts) i zero d rise before within below = absurd (omega (arith, before))
rising-apart from to (count ∷ counts) zero (suc j) d rise before within below = rising-above count to counts j d rise.1 (omega (arith, within)) below
rising-apart from to (count ∷ counts) (suc i) (suc j) d rise before within below = rising-apart count to counts i j d rise.1 (omega (arith, before)) (omega (arith, within)) below

pub rising-bounded : RisingCountsAreBounded
rising-bounded from to [] i d rise within below = absurd (omega (arith, within))
rising-bounded from to (count ∷ counts) zero d rise within below = elim (cases_lt to count) [
  | inl above ↦ absurd (Rise-above count to counts above below rise.1)
  | inr at_most ↦ at_most
]
rising-bounded from to (count ∷ counts) (suc i) d rise within below = rising-bounded count to counts i d rise.1 (omega (arith, within)) below
