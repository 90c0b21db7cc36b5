-- One version of a block that may be torn.
use Rattle.std.specs.Prelude.{◌≡◌, ℕ, ◌+◌, ◌-◌, ◌<◌, List, Option, Some, None, replicate}
use Rattle.disk_model.specs.Bytes.{after_write}
use Rattle.disk_model.specs.Keeps.{Outside}
use Rattle.rpmb_frame.specs.Layout.{frame_of}
use Rattle.rpmb_card.specs.Card.{CardState}
use Rattle.host_card.specs.declared.card_file.Place.{Place}
use Rattle.host_card.specs.CardFile.{file_length, version_at, request_at, request_in, last_request, IsCardFile, IsClear, IsWhole, KeepsCard}

-- the bytes of a version that is clear
unfoldable pub zeros : List ℕ
zeros = replicate 1024 0

-- where a place begins
abbrev pub begin : Place → ℕ
begin place = version_at place.address place.version

-- the bytes with the version of this place made zero, or with none
abbrev pub without : List ℕ → Option Place → List ℕ
without bytes None = bytes
without bytes (Some place) = after_write bytes (begin place) zeros

-- a place in the file, and not in this version
abbrev pub Off : Option Place → ℕ → Type 0
Off None p = p < file_length
Off (Some place) p = (p < file_length) × Outside (begin place) (begin place + 1024) p

-- A version is spare: the other one has the block's last request, or is clear where there is none. So whatever stands in the
-- spare version, the block is not damaged; and where it is made zero, the block stays as it is.
pub record IsSpare (key bytes : List ℕ) (place : Place) : Type 0 where
  pub address : place.address < 256
  pub version : place.version < 2
  pub last : last_request key bytes place.address ≡ request_in key bytes place.address (1 - place.version)
  pub clear : last_request key bytes place.address ≡ None → IsClear bytes place.address (1 - place.version)

-- the version that may be torn, if one is, is spare
abbrev pub IsSpareOrNone : (key bytes : List ℕ) → Option Place → Type 0
IsSpareOrNone key bytes torn = (place : Place) → torn ≡ Some place → IsSpare key bytes place

-- The bytes are the file of this card, no block of it is damaged, and with one version made zero, a spare one, or with none,
-- they keep the card.
pub record Stands (key bytes : List ℕ) (torn : Option Place) (card : CardState) : Type 0 where
  pub file : IsCardFile key bytes
  pub whole : IsWhole key bytes
  pub spare : IsSpareOrNone key (without bytes torn) torn
  pub keeps : KeepsCard key (without bytes torn) card

-- both copies of one version of its block are this request
abbrev pub HasCopies : (bytes request : List ℕ) → Type 0
HasCopies bytes request = (version : ℕ) × (version < 2) × (request_at bytes (version_at (frame_of request).address version) ≡ request)
    × (request_at bytes (version_at (frame_of request).address version + 512) ≡ request)
