-- Why a commit ends as it does: a device's count rose, or no honest card is there.
use Rattle.std.specs.Prelude.{◌≡◌, ℕ, ◌≤◌, List, IsTrue}
use Rattle.disk_model.specs.State.{FileState}
use Rattle.disk_model.specs.Faults.{Rose, next_count}
use Rattle.htree_file.specs.Answers.{FileFailed}
use Rattle.rpmb_card.specs.Card.{CardState}
use Rattle.rpmb_card.specs.Port.{PortState}
use Rattle.rpmb_host.specs.Honest.{HasCard}
use Rattle.tee_types.specs.declared.reply.Cause.{Cause}
use Rattle.tee_types.specs.declared.reply.Cause.TheVariants.{Fault, Frame, CardResult}
use Rattle.tee_types.specs.declared.reply.Device.{Device}
use Rattle.tee_types.specs.declared.reply.Device.TheVariants.{Dir, File, Card, Entropy}
use Rattle.store_commit.specs.declared.change.CommitEnd.{CommitEnd}
use Rattle.store_commit.specs.declared.change.CommitEnd.TheVariants.{Made, Dropped, Doubtful, Spent}

-- the counts of the devices that a commit uses
pub record Counted : Type 0 where
  pub file : FileState
  pub port : PortState
  pub draws : ℕ

abbrev pub counts : FileState → PortState → ℕ → Counted
counts file port draws = record { file = file; port = port; draws = draws }

-- a count rose, and is carried
abbrev pub DeviceCause : (old new : Counted) → Device → ℕ → Type 0
DeviceCause old new Dir count = FileFailed old.file new.file count
DeviceCause old new (File n) count = ⊥
DeviceCause old new Card count = Rose old.port.faults new.port.faults × (count ≡ new.port.faults)
DeviceCause old new Entropy count = Rose old.draws new.draws × (count ≡ new.draws)

-- no card is told that has the key and the counter
abbrev pub NoCard : PortState → (key : List ℕ) → ℕ → Type 0
NoCard port key counter = (card : CardState) → HasCard port key card → card.counter ≡ counter → ⊥

-- a device's count rose, or the card is not honest
abbrev pub CauseStands : (key : List ℕ) → (counter : ℕ) → (old new : Counted) → Cause → Type 0
CauseStands key counter old new (Fault device count) = DeviceCause old new device count
CauseStands key counter old new (Frame fault) = NoCard old.port key counter
CauseStands key counter old new (CardResult result) = NoCard old.port key counter

-- a doubt over a card that has the key costs two counts at least
abbrev pub TwiceRose : PortState → PortState → Type 0
TwiceRose old new = next_count (next_count old.faults) ≤ new.faults

abbrev pub CostsTwice : (key : List ℕ) → (counter : ℕ) → (old new : PortState) → Type 0
CostsTwice key counter old new = (card : CardState) → HasCard old key card → card.counter ≡ counter → TwiceRose old new

-- The cause of an end. Where the commit was made, no count rose but the card's; where the card is spent, none did.
abbrev pub EndCause : (key : List ℕ) → (counter : ℕ) → (old new : Counted) → CommitEnd → Type 0
EndCause key counter old new (Made n) = Unit {0}
EndCause key counter old new (Dropped cause) = CauseStands key counter old new cause
EndCause key counter old new (Doubtful n cause) = CauseStands key counter old new cause × CostsTwice key counter old.port new.port
EndCause key counter old new Spent = new ≡ old

-- a draw failed
abbrev pub IsDrawn : Cause → Type 0
IsDrawn (Fault Entropy count) = Unit {0}
IsDrawn cause = ⊥

abbrev pub NotDrawn : Cause → Type 0
NotDrawn (Fault Entropy count) = ⊥
NotDrawn cause = Unit {0}

abbrev pub EndNotDrawn : CommitEnd → Type 0
EndNotDrawn (Made n) = Unit {0}
EndNotDrawn (Dropped cause) = NotDrawn cause
EndNotDrawn (Doubtful n cause) = NotDrawn cause
EndNotDrawn Spent = Unit {0}

abbrev pub EndIsDrawn : CommitEnd → Type 0
EndIsDrawn (Dropped cause) = IsDrawn cause
EndIsDrawn end = ⊥

-- the cause is no failure of the card
abbrev pub NotOfCard : Cause → Type 0
NotOfCard (Fault Card count) = ⊥
NotOfCard cause = Unit {0}

abbrev pub EndNotOfCard : CommitEnd → Type 0
EndNotOfCard (Made n) = Unit {0}
EndNotOfCard (Dropped cause) = NotOfCard cause
EndNotOfCard (Doubtful n cause) = NotOfCard cause
EndNotOfCard Spent = Unit {0}

-- the cause is the card's: its port failed, or what it answered is refused
abbrev pub IsByCard : Cause → Type 0
IsByCard (Fault Card count) = Unit {0}
IsByCard (Fault device count) = ⊥
IsByCard (Frame fault) = Unit {0}
IsByCard (CardResult result) = Unit {0}

-- only the card leaves a commit in doubt
abbrev pub DoubtIsByCard : CommitEnd → Type 0
DoubtIsByCard (Made n) = Unit {0}
DoubtIsByCard (Dropped cause) = Unit {0}
DoubtIsByCard (Doubtful n cause) = IsByCard cause
DoubtIsByCard Spent = Unit {0}

-- A port tells its armed faults where it did before, and they are the same but for the count of calls.
pub record KeepsPortArms (old new : PortState) : Type 0 where
  pub tells : new.tells_arms ≡ old.tells_arms
  pub arms : IsTrue old.tells_arms → new.arms ≡ record old.arms { calls = new.arms.calls }

-- a port that is calm stays so, and counts no fault
pub record StaysCalm (old new : PortState) : Type 0 where
  pub calm : IsTrue new.calm
  pub faults : new.faults ≡ old.faults
