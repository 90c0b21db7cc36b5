-- The devices of a store that is served, their counts of faults, and what a call leaves of them.
use Rattle.std.specs.Prelude.{IsTrue, List, None, slice_index_or, ℕ, ◌-◌, ◌≡◌, ◌⊎◌}
use Rattle.disk_model.specs.Calls.{GoesOn}
use Rattle.disk_model.specs.Faults.{Rose}
use Rattle.disk_model.specs.State.{FileState, no_file}
use Rattle.object_slots.specs.SlotValues.{SlotValue, free}
use Rattle.rpmb_card.specs.Card.{CardState}
use Rattle.rpmb_card.specs.Port.{PortState}
use Rattle.rpmb_host.specs.Honest.{HadCard, HasCard}
use Rattle.commit_gate.specs.CardEnds.{CardGoesOn}
use Rattle.commit_gate.specs.Causes.{IsByCard, KeepsPortArms, StaysCalm, TwiceRose}
use Rattle.commit_gate.specs.Gates.{GateValue}
use Rattle.commit_gate.specs.Heard.{HeardCause}
use Rattle.store_model.specs.declared.event.Mark.{Mark}
use Rattle.store_model.specs.declared.event.Mark.TheVariants.{Doubtful}
use Rattle.tee_types.specs.declared.reply.Cause.{Cause}
use Rattle.tee_types.specs.declared.reply.Cause.TheVariants.{CardResult, Fault, Frame}
use Rattle.tee_types.specs.declared.reply.Device.{Device}
use Rattle.tee_types.specs.declared.reply.Device.TheVariants.{Card, Dir, Entropy, File}
use Rattle.tee_types.specs.declared.reply.Reply.{Reply}
use Rattle.tee_types.specs.declared.reply.Reply.TheVariants.{NotAvailable}

-- the directory's file, the file of each object by its number, the port to the card, and how many faults the caller's entropy counted
pub record Devices : Type 0 where
  pub dir : FileState
  pub file : (number : ℕ) → FileState
  pub card : PortState
  pub draws : ℕ

-- no slot at all
abbrev pub no_slot : SlotValue
no_slot = record { number = 0; seat = None; file = no_file; holds = free; doubt = None }

-- the file of that number, which lies in the slot before that place
abbrev pub file_in : List SlotValue → (number : ℕ) → FileState
file_in slots number = (slice_index_or slots (number - 1) no_slot).file

abbrev pub devices_of : {F R : Type 0} → (F → FileState) → (R → PortState) → GateValue F R → List SlotValue → (draws : ℕ) → Devices
devices_of of_file of_port gate slots draws = record { dir = of_file gate.dir.file; file = file_in slots; card = of_port gate.host.port; draws = draws }

-- how many faults the device counted
abbrev pub faults_of : Devices → Device → ℕ
faults_of d Dir = d.dir.faults
faults_of d (File number) = (d.file number).faults
faults_of d Card = d.card.faults
faults_of d Entropy = d.draws

-- the port tells no card that has the key
abbrev pub TellsNoCard : PortState → (key : List ℕ) → Type 0
TellsNoCard port key = (card : CardState) → HasCard port key card → ⊥

-- what a cause says of a frame is what one is that the port heard, where the host knew some counter
abbrev pub IsOfHeard : (key : List ℕ) → PortState → Cause → Type 0
IsOfHeard key port cause = (counter : ℕ) × HeardCause key counter port cause

-- A device that a reply accuses counted a fault, and the reply carries its count. A frame, or a result of the card, is the cause only where
-- the port tells no card that has the key, and is what was heard.
abbrev pub AccusesRightly : (key : List ℕ) → (old new : Devices) → Reply → Type 0
AccusesRightly key old new (NotAvailable (Fault device count)) = Rose (faults_of old device) (faults_of new device) × (count ≡ faults_of new device)
AccusesRightly key old new (NotAvailable (Frame fault)) = TellsNoCard old.card key × IsOfHeard key new.card (Frame fault)
AccusesRightly key old new (NotAvailable (CardResult result)) = TellsNoCard old.card key × IsOfHeard key new.card (CardResult result)
AccusesRightly key old new reply = Unit {0}

-- Only the card leaves a commit in doubt; and over one that has the key that cost two counts of its port at least.
abbrev pub CostsDoubt : (key : List ℕ) → (old new : Devices) → Mark → Reply → Type 0
CostsDoubt key old new (Doubtful commit) (NotAvailable cause) = IsByCard cause × ((card : CardState) → HasCard old.card key card → TwiceRose old.card new.card)
CostsDoubt key old new (Doubtful commit) reply = ⊥
CostsDoubt key old new mark reply = Unit {0}

-- a count stands still, or it rose
abbrev pub Grows : (old new : ℕ) → Type 0
Grows old new = (new ≡ old) ⊎ Rose old new

-- What a call does to a generator of random bytes: its count of faults stands still or rises; one that never fails stays so, and counts none.
pub record DrawsOn {D : Type 0} (Reliable : D → Type 0) (faults : D → ℕ) (old new : D) : Type 0 where
  pub counted : Grows (faults old) (faults new)
  pub reliable : Reliable old → Reliable new
  pub still : Reliable old → faults new ≡ faults old

-- each device's count stands still, or it rose
abbrev pub CountsGrow : (old new : Devices) → Type 0
CountsGrow old new = (device : Device) → Grows (faults_of old device) (faults_of new device)

-- The port tells a card that has the key where it did before, and only commits wrote it; a calm one stays calm and counts no fault; its count
-- stands still, or it rose. Its armed faults are the same but for the count of calls, where it tells them, and it tells them still.
pub record PortGoesOn (key : List ℕ) (old new : PortState) : Type 0 where
  pub told : (card : CardState) → HasCard old key card → HadCard new key
  pub card : (was is : CardState) → HasCard old key was → HasCard new key is → CardGoesOn was is
  pub calm : IsTrue old.calm → StaysCalm old new
  pub counted : Grows old.faults new.faults
  pub arms : KeepsPortArms old new

-- What a call leaves of the devices: the meanings of each go on.
pub record DevicesGoOn (key : List ℕ) (old new : Devices) : Type 0 where
  pub dir : GoesOn old.dir new.dir
  pub file : (number : ℕ) → GoesOn (old.file number) (new.file number)
  pub card : PortGoesOn key old.card new.card
  pub draws : Grows old.draws new.draws
