-- Why no card was read from a file, or made in it.
use Rattle.std.specs.Prelude.{◌≡◌, ◌⊎◌, ℕ, ◌<◌, ◌≤◌, List, length, take, IsTrue, Result, Ok, Err}
use Rattle.tee_ports.specs.declared.failed.Failed.{Failed as Failure}
use Rattle.disk_model.specs.State.{FileState}
use Rattle.disk_model.specs.Faults.{Rose}
use Rattle.disk_model.specs.Calls.{Known, Rests}
use Rattle.host_card.specs.declared.card_fault.CardFault.{CardFault}
use Rattle.host_card.specs.declared.card_fault.CardFault.TheVariants.{Failed, NoCard, NotEmpty, Foreign, OtherKey, Damaged, NoMemory}
use Rattle.host_card.specs.CardFile.{file_length, magic, header, IsDamaged}

-- a run of calls of a file: where it succeeds no fault was counted, and where it fails one was, and its count is told
abbrev pub Counts : {A : Type 0} → FileState → FileState → Result A Failure → Type 0
Counts old new (Ok answer) = new.faults ≡ old.faults
Counts old new (Err failed) = Rose old.faults new.faults × (failed.count ≡ new.faults)

-- the bytes are no card's file
abbrev pub IsForeign : List ℕ → Type 0
IsForeign bytes = (0 < length bytes) × ((length bytes < file_length) ⊎ ¬ (take 16 bytes ≡ magic))

-- they are the file of a card with another key
pub record IsOther (key bytes : List ℕ) : Type 0 where
  pub whole : file_length ≤ length bytes
  pub magic : take 16 bytes ≡ magic
  pub header : ¬ (take 48 bytes ≡ header key)

-- why no card is in these bytes
abbrev pub IsRefused : (key bytes : List ℕ) → CardFault → Type 0
IsRefused key bytes (Failed count) = ⊥
IsRefused key bytes NoCard = length bytes ≡ 0
IsRefused key bytes (NotEmpty end) = ⊥
IsRefused key bytes Foreign = IsForeign bytes
IsRefused key bytes OtherKey = IsOther key bytes
IsRefused key bytes (Damaged address) = IsDamaged key bytes address
IsRefused key bytes NoMemory = ⊥

-- no card was read: the file counted a fault, or no memory was left, or the bytes were refused
abbrev pub HasFault : (key : List ℕ) (old new : FileState) → CardFault → Type 0
HasFault key old new (Failed count) = Rose old.faults new.faults × (count ≡ new.faults)
HasFault key old new NoMemory = Rests old new × (new.faults ≡ old.faults)
HasFault key old new fault = (new.faults ≡ old.faults) × (IsTrue old.tells → Known old new → IsRefused key old.reads fault)

-- no card was made: the file counted a fault, or has bytes, and then it rests, or no memory was left
abbrev pub HasNoRoom : (old new : FileState) → CardFault → Type 0
HasNoRoom old new (Failed count) = Rose old.faults new.faults × (count ≡ new.faults)
HasNoRoom old new NoCard = ⊥
HasNoRoom old new (NotEmpty end) = Rests old new × (new.faults ≡ old.faults) × (0 < end) × (IsTrue old.tells → Known old new → end ≡ length old.reads)
HasNoRoom old new Foreign = ⊥
HasNoRoom old new OtherKey = ⊥
HasNoRoom old new (Damaged address) = ⊥
HasNoRoom old new NoMemory = new ≡ old
