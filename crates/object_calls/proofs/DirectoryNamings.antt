-- What the card names: its block 0 is read, or written so that it names the copy of a directory.
use Rattle.std.proofs.Common.{◌≡◌, ◌⊎◌, ◌∙◌, ◌==◌, ℕ, Bool, true, false, List, Option, Some, None, Result, Ok, Err, refl, sym, ap, subst, inl, inr}
use Rattle.std.specs.List.{list_all}
use Rattle.node_image.specs.declared.node.RootRef.{RootRef}
use Rattle.rpmb_card.specs.Card.{CardState}
use Rattle.rpmb_card.specs.Port.{PortState}
use Rattle.rpmb_host.specs.Honest.{HasCard}
use Rattle.crash_core.specs.CardBlock.{first_outside, root_in, root_or}
use Rattle.crash_core.specs.Refusal.{Refusal}
use Rattle.store_commit.specs.declared.fault.MountFault.{MountFault}
use Rattle.store_commit.specs.declared.fault.MountFault.TheVariants.{NoStore, CardBlock}
use Rattle.store_commit.specs.declared.change.CardEnd.{CardEnd}
use Rattle.store_commit.specs.declared.change.CardEnd.TheVariants.{Landed, Lost, Unknown}
use Rattle.store_commit.specs.Blocks.{block_answer}
use Rattle.store_commit.specs.CardEnds.{CardLeft, IsSealedCard}
use Rattle.store_commit.specs.Mounts.{Tells}
use Rattle.store_commit.specs.Sides.{Names}
use Rattle.store_commit.proofs.Outside.{root_other, root_zero}
use Rattle.object_calls.specs.DirectoryMoves.{RootRefused}

-- READING BLOCK 0
pub root_answered : (r : Result RootRef Refusal) (root : RootRef) → Ok root ≡ block_answer r → r ≡ Ok root
root_answered (Ok other) root is = cc (is)
root_answered (Err refusal) root is = absurd (cc (is))

pub card_names : (card : CardState) (root : RootRef) (counter : ℕ) (block : List ℕ) → Tells card counter block → Ok root ≡ block_answer (root_in block) → Names card root counter
card_names card root counter block tells is = record { block = ap root_in tells.stands ∙ root_answered (root_in block) root is; counted = tells.counted }

-- a block that names no directory
module _ (key : List ℕ) (p0 p1 : PortState) (drew draws : ℕ) (block : List ℕ) (counter : ℕ) (tells : (card : CardState) → HasCard p0 key card → Tells card counter block) (fault : MountFault) (is : Err fault ≡ block_answer (root_in block)) where
  by_offset : (o : Option ℕ) → root_in block ≡ root_or block o → RootRefused key p0 p1 drew draws fault
  by_offset None named = absurd (cc (is, named))
  by_offset (Some offset) bad =
      let same : fault ≡ CardBlock offset = cc (is, bad) in
      subst (RootRefused key p0 p1 drew draws) (sym same) (λ card has. ap root_in (tells card has).stands ∙ bad)

  pub block_refused : RootRefused key p0 p1 drew draws fault
  block_refused = by_zero (list_all (λ x. x == 0) block) refl
    where
      by_zero : (b : Bool) → list_all (λ x. x == 0) block ≡ b → RootRefused key p0 p1 drew draws fault
      by_zero true blank =
          let none = root_zero block blank in
          let same : fault ≡ NoStore = cc (is ∙ ap block_answer none) in
          subst (RootRefused key p0 p1 drew draws) (sym same) (λ card has. ap root_in (tells card has).stands ∙ none)
      by_zero false other = by_offset (first_outside block 0 256) (root_other block other)

-- WRITING IT
-- behind a write that was not confirmed
pub left_or_sealed : (new : PortState) (key : List ℕ) (card : CardState) (root : RootRef) (end : CardEnd) → CardLeft new key card root end → HasCard new key card ⊎ IsSealedCard new key card root
left_or_sealed new key card root Landed seal = inr seal
left_or_sealed new key card root (Lost cause) has = inl has
left_or_sealed new key card root (Unknown cause) either = either
