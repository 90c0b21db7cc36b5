-- What the write of block 0 leaves of the card.
use Rattle.std.specs.Prelude.{◌≡◌, ◌⊎◌, ℕ, ◌+◌, ◌<◌, List, slice_set}
use Rattle.node_image.specs.declared.node.RootRef.{RootRef}
use Rattle.rpmb_card.specs.Card.{CardState}
use Rattle.rpmb_card.specs.Port.{PortState}
use Rattle.rpmb_host.specs.Honest.{HasCard}
use Rattle.crash_core.specs.CardBlock.{IsReference, root_block}
use Rattle.crash_core.specs.Pictures.{SameCard}
use Rattle.crash_core.specs.Seals.{sealed_card}
use Rattle.tee_types.specs.declared.reply.Cause.{Cause}
use Rattle.store_commit.specs.declared.change.CardEnd.{CardEnd}
use Rattle.store_commit.specs.declared.change.CardEnd.TheVariants.{Landed, Lost, Unknown}

-- The port tells the card that the core machine's seal makes of this one: the new block 0, whole, and the counter one higher.
pub record IsSealedCard (port : PortState) (key : List ℕ) (card : CardState) (root : RootRef) : Type 0 where
  pub next : CardState
  pub has : HasCard port key next
  pub same : SameCard next (sealed_card card root)

-- the write stands, or it does not, or which is not known
abbrev pub CardLeft : (new : PortState) → (key : List ℕ) → CardState → RootRef → CardEnd → Type 0
CardLeft new key card root Landed = IsSealedCard new key card root
CardLeft new key card root (Lost cause) = HasCard new key card
CardLeft new key card root (Unknown cause) = HasCard new key card ⊎ IsSealedCard new key card root

-- what a counter read after the write tells, where the card's counter is `held`
abbrev pub AskLeft : (held counter : ℕ) → Cause → CardEnd → Type 0
AskLeft held counter cause Landed = held ≡ counter + 1
AskLeft held counter cause (Lost why) = (held ≡ counter) × (why ≡ cause)
AskLeft held counter cause (Unknown why) = Unit {0}

-- commits raised the counter, and the last one wrote a reference into block 0; the other blocks are as they were
pub record IsCommittedCard (old new : CardState) : Type 0 where
  pub key : new.key ≡ old.key
  pub counter : old.counter < new.counter
  pub root : RootRef
  pub form : IsReference root
  pub blocks : new.blocks ≡ slice_set old.blocks 0 (root_block root)

-- A card behind commits: as it was, but for its register; or so.
abbrev pub CardGoesOn : (old new : CardState) → Type 0
CardGoesOn old new = SameCard new old ⊎ IsCommittedCard old new
