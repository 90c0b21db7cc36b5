-- What the first bytes of a file say, and what a new card's file is.
use Rattle.std.specs.Prelude.{◌≡◌, ℕ, List, length, take, None, IsTrue}
use Rattle.disk_model.specs.State.{FileState, LeftNow}
use Rattle.disk_model.specs.Calls.{Known}
use Rattle.disk_model.specs.Bytes.{after_resize, after_write}
use Rattle.rpmb_card.specs.Card.{keyed}
use Rattle.host_card.specs.declared.card_fault.CardFault.{CardFault}
use Rattle.host_card.specs.declared.card_fault.CardFault.TheVariants.{Failed, NoCard, NotEmpty, Foreign, OtherKey, Damaged, NoMemory}
use Rattle.host_card.specs.CardFile.{file_length, header, magic}
use Rattle.host_card.specs.Places.{Stands}

-- why the first sector is not that of a card with this key
abbrev pub IsRefusal : (key first : List ℕ) → CardFault → Type 0
IsRefusal key first (Failed count) = ⊥
IsRefusal key first NoCard = ⊥
IsRefusal key first (NotEmpty end) = ⊥
IsRefusal key first Foreign = ¬ (take 16 first ≡ magic)
IsRefusal key first OtherKey = (take 16 first ≡ magic) × ¬ (take 48 first ≡ header key)
IsRefusal key first (Damaged address) = ⊥
IsRefusal key first NoMemory = ⊥

-- a file was given its length and its header, and settled
pub record IsLaid (key : List ℕ) (old new : FileState) : Type 0 where
  pub reads : Known old new → new.reads ≡ after_write (after_resize old.reads file_length) 0 (header key)
  pub settled : IsTrue new.honest → (image : List ℕ) → LeftNow new image → image ≡ new.reads

-- a file without bytes was made the file of a card that was never written, and settled
pub record IsMade (key : List ℕ) (old new : FileState) : Type 0 where
  pub empty : IsTrue old.tells → Known old new → length old.reads ≡ 0
  pub stands : IsTrue old.tells → Known old new → Stands key new.reads None (keyed key)
  pub settled : IsTrue new.honest → (image : List ℕ) → LeftNow new image → image ≡ new.reads
