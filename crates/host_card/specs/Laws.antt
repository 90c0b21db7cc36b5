-- What a file keeps in which a version may be torn, as it reads.
use Rattle.std.specs.Prelude.{◌≡◌, ◌⊎◌, ℕ, ◌+◌, ◌<◌, ◌≤◌, List, Option, true, slice_set, max}
use Rattle.rpmb_frame.specs.Layout.{frame_of}
use Rattle.rpmb_card.specs.Card.{CardState}
use Rattle.host_card.specs.declared.card_file.Place.{Place}
use Rattle.host_card.specs.CardFile.{counter_behind, is_write_of, last_request, KeepsCard}
use Rattle.host_card.specs.Places.{Stands, without}

-- two cards are the same but for their result registers
pub record HasSameContent (card other : CardState) : Type 0 where
  pub key : other.key ≡ card.key
  pub counter : other.counter ≡ card.counter
  pub blocks : other.blocks ≡ card.blocks

-- The other card has one more write, but for its register: one that the key signed, and that is no older than what stood in its
-- block.
pub record HasOneMore (key bytes : List ℕ) (torn : Option Place) (card other : CardState) : Type 0 where
  pub address : ℕ
  pub request : List ℕ
  pub within : address < 256
  pub write : is_write_of key address request ≡ true
  pub newer : counter_behind (last_request key (without bytes torn) address) ≤ (frame_of request).counter + 1
  pub same_key : other.key ≡ card.key
  pub blocks : other.blocks ≡ slice_set card.blocks address (frame_of request).block
  pub counter : other.counter ≡ max card.counter ((frame_of request).counter + 1)

-- A law: what a file keeps as it reads, where a version may be torn, is the card, or the card and one more write.
abbrev pub TornFilesKeepNoMoreThanOneWrite : Type 0
TornFilesKeepNoMoreThanOneWrite = (key bytes : List ℕ) (torn : Option Place) (card other : CardState) → Stands key bytes torn card → KeepsCard key bytes other
    → HasSameContent card other ⊎ HasOneMore key bytes torn card other
