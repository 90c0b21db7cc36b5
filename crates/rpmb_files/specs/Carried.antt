-- What the writes of a call leave, one after another.
use Rattle.std.specs.Prelude.{◌≡◌, ◌⊎◌, ℕ, suc, ◌+◌, ◌<◌, ◌==◌, List}
use Rattle.rpmb_card.specs.Card.{CardState}
use Rattle.rpmb_card.specs.Port.{PortState}
use Rattle.rpmb_host.specs.Honest.{HasCard}
use Rattle.card_maps.specs.Plans.{CardWrite, written_upto}
use Rattle.rpmb_files.specs.declared.plan.PlanEnd.{PlanEnd}
use Rattle.rpmb_files.specs.declared.plan.PlanEnd.TheVariants.{Landed, Lost, Unknown}
use Rattle.rpmb_files.specs.Devices.{Devices, GoesOn}
use Rattle.rpmb_files.specs.Causes.{CauseStands, NotDrawn, NotOfCard}

-- The first n writes were made: a card that has the key and the counter has done them.
pub record IsCarried (key : List ℕ) (old now : Devices) (counter : ℕ) (write : ℕ → CardWrite) (n : ℕ) : Type 0 where
  pub goes : GoesOn key old now
  pub card : (card : CardState) → HasCard old.port key card → card.counter ≡ counter
      → HasCard now.port key (written_upto card write n) × ((written_upto card write n).counter ≡ counter + n)

-- The card behind the writes, by their end: all stand; or the first ones alone, and the counter that is kept is the card's; or of the
-- next one it is not known, which may be the last.
abbrev pub PlanEndLeaves : (key : List ℕ) → (new : PortState) → (counter kept : ℕ) → (card : CardState) → (ℕ → CardWrite) → (count : ℕ) → PlanEnd → Type 0
PlanEndLeaves key new counter kept card write count Landed = HasCard new key (written_upto card write count) × (kept ≡ counter + count)
PlanEndLeaves key new counter kept card write count (Lost cause) = (n : ℕ) × (n < count) × HasCard new key (written_upto card write n) × (kept ≡ counter + n)
PlanEndLeaves key new counter kept card write count (Unknown is_last cause) =
    (n : ℕ) × (n < count) × (is_last ≡ (n + 1 == count)) × (HasCard new key (written_upto card write n) ⊎ HasCard new key (written_upto card write (suc n)))

abbrev pub PlanLeaves : (key : List ℕ) → (old new : PortState) → (counter kept : ℕ) → (ℕ → CardWrite) → (count : ℕ) → PlanEnd → Type 0
PlanLeaves key old new counter kept write count end =
    (card : CardState) → HasCard old key card → card.counter ≡ counter → PlanEndLeaves key new counter kept card write count end

abbrev pub PlanCause : (Besides : Type 0) → (key : List ℕ) → (old new : Devices) → PlanEnd → Type 0
PlanCause Besides key old new Landed = Unit {0}
PlanCause Besides key old new (Lost cause) = CauseStands Besides key old new cause
PlanCause Besides key old new (Unknown is_last cause) = CauseStands Besides key old new cause

abbrev pub PlanOfNoCard : PlanEnd → Type 0
PlanOfNoCard Landed = Unit {0}
PlanOfNoCard (Lost cause) = NotOfCard cause
PlanOfNoCard (Unknown is_last cause) = NotOfCard cause

abbrev pub PlanOfNoDraw : PlanEnd → Type 0
PlanOfNoDraw Landed = Unit {0}
PlanOfNoDraw (Lost cause) = NotDrawn cause
PlanOfNoDraw (Unknown is_last cause) = NotDrawn cause
