-- What a file keeps of a card over its calls, and what a crash leaves of it.
use Rattle.std.specs.Prelude.{◌≡◌, ℕ, List, Option, Some, None, false, IsTrue}
use Rattle.disk_model.specs.Bytes.{after_write}
use Rattle.disk_model.specs.Images.{Every, Has}
use Rattle.disk_model.specs.State.{FileState, LeftNow, LeftSince, moment}
use Rattle.disk_model.specs.Calls.{Known}
use Rattle.disk_model.specs.Keeps.{Keeps}
use Rattle.rpmb_card.specs.Arms.{no_arms}
use Rattle.rpmb_card.specs.Card.{CardState}
use Rattle.rpmb_card.specs.Port.{PortState}
use Rattle.host_card.specs.declared.card_file.Place.{Place}
use Rattle.host_card.specs.Places.{Off, Stands}

-- A file that tells its bytes and can be followed keeps a card, but for a version that may be torn; and each image that a
-- crash leaves of an honest one has the same bytes outside that version.
pub record Holds (key : List ℕ) (s : FileState) (card : CardState) (torn : Option Place) : Type 0 where
  pub stands : IsTrue s.tells → Known s s → Stands key s.reads torn card
  pub left : IsTrue s.honest → (place byte : ℕ) → Off torn place → Has s.reads place byte → Every (LeftNow s) place byte

-- each image that a crash leaves now keeps the card
abbrev pub IsLeft : (key : List ℕ) → FileState → CardState → Type 0
IsLeft key s card = IsTrue s.honest → (image : List ℕ) → LeftNow s image → Stands key image None card

-- At each moment of a run: what a crash leaves keeps the card, with a spare version made zero, or with none.
abbrev pub HoldsCard : (key : List ℕ) (old new : FileState) → CardState → Type 0
HoldsCard key old new card = IsTrue new.honest → (image : List ℕ) → LeftSince new (moment old) image → (torn : Option Place) × Stands key image torn card

-- no place
abbrev pub Nowhere : ℕ → Type 0
Nowhere place = ⊥

-- The same of two runs, one after the other. The file between them is one that calls led to, and from which calls led on.
pub record HoldsTwice (key : List ℕ) (old new : FileState) (card : CardState) : Type 0 where
  pub between : FileState
  pub first : Keeps Nowhere old between
  pub second : Keeps Nowhere between new
  pub held : HoldsCard key old between card
  pub still : HoldsCard key between new card

-- bytes were written at a place and settled
pub record IsPut (old new : FileState) (at : ℕ) (bytes : List ℕ) : Type 0 where
  pub reads : Known old new → new.reads ≡ after_write old.reads at bytes
  pub settled : IsTrue new.honest → (image : List ℕ) → LeftNow new image → image ≡ new.reads

-- A file was settled, and no byte of it changed: none was written, and it reads as before.
pub record Settles (old new : FileState) : Type 0 where
  pub reads : Known old new → new.reads ≡ old.reads
  pub written : new.written ≡ old.written
  pub settled : IsTrue new.honest → (image : List ℕ) → LeftNow new image → image ≡ new.reads

-- a port to a card, as what is known of a port: it tells its card, and is not calm, since its file may fail
abbrev pub kept_port : CardState → List (List ℕ) → ℕ → PortState
kept_port card heard faults = record {
  faults = faults;
  starved = 0;
  card = Some card;
  heard = heard;
  calm = false;
  tells_arms = false;
  arms = no_arms;
}
