-- What a crash may leave of a device set: an image of each file, and the card.
use Rattle.std.specs.Prelude.{◌≡◌, ℕ, List, [], get_or, IsTrue}
use Rattle.disk_model.specs.State.{FileState, LeftNow, Sound}
use Rattle.rpmb_card.specs.Card.{CardState}

-- one image of each file, by their numbers, and the card's state
pub record Picture : Type 0 where
  pub images : ℕ → List ℕ
  pub card : CardState

abbrev pub block_zero : CardState → List ℕ
block_zero card = get_or card.blocks 0 []

-- The two cards differ in the register alone, which says how the last write ended, and which no mount reads.
pub record SameCard (a b : CardState) : Type 0 where
  pub key : a.key ≡ b.key
  pub counter : a.counter ≡ b.counter
  pub blocks : a.blocks ≡ b.blocks

-- a crash may now leave this picture of the files and the card
pub record IsPictureOf (files : ℕ → FileState) (card : CardState) (picture : Picture) : Type 0 where
  pub left : (file : ℕ) → LeftNow (files file) (picture.images file)
  pub same : SameCard picture.card card

-- what holds of every file holds of each of these, and each is honest
abbrev pub AreSound : (ℕ → FileState) → Type 0
AreSound files = (file : ℕ) → Sound (files file)

abbrev pub AreAllHonest : (ℕ → FileState) → Type 0
AreAllHonest files = (file : ℕ) → IsTrue (files file).honest
