-- Single exchanges of a card store.
use Rattle.std.specs.Prelude.{◌≡◌, ◌⊎◌, ℕ, ◌+◌, List}
use Rattle.rpmb_card.specs.Card.{CardState}
use Rattle.rpmb_card.specs.Port.{PortState}
use Rattle.rpmb_host.specs.Honest.{HasCard, written_card}
use Rattle.rpmb_host.specs.declared.fault.HostFault.{HostFault}
use Rattle.rpmb_host.specs.declared.fault.HostFault.TheVariants.{Failed, BadFrame, CardResult as RefusedBy, Spent}
use Rattle.card_maps.specs.CardMaps.{blocks_of}
use Rattle.tee_types.specs.declared.reply.Cause.{Cause}
use Rattle.tee_types.specs.declared.reply.Cause.TheVariants.{Fault, Frame as OfFrame, CardResult}
use Rattle.tee_types.specs.declared.reply.Device.TheVariants.{Card}
use Rattle.rpmb_files.specs.declared.link.Asked.{Asked}
use Rattle.rpmb_files.specs.declared.link.Asked.TheVariants.{Same, Next, Untold}
use Rattle.rpmb_files.specs.declared.link.WriteEnd.{WriteEnd}
use Rattle.rpmb_files.specs.declared.link.WriteEnd.TheVariants.{Landed, Lost, Unknown}
use Rattle.rpmb_files.specs.Devices.{Devices}
use Rattle.rpmb_files.specs.Causes.{CauseStands, NotDrawn, NotOfCard}

-- the cause that a fault of the host is; none is that the counter is spent
abbrev pub FaultIs : HostFault → Cause → Type 0
FaultIs (Failed count) cause = cause ≡ Fault Card count
FaultIs (BadFrame fault) cause = cause ≡ OfFrame fault
FaultIs (RefusedBy result) cause = cause ≡ CardResult result
FaultIs Spent cause = ⊥

-- what a read tells of a card that has the key
abbrev pub TellsCounter : (key : List ℕ) → PortState → (counter : ℕ) → Type 0
TellsCounter key port counter = (card : CardState) → HasCard port key card → card.counter ≡ counter

abbrev pub TellsBlock : (key : List ℕ) → PortState → (address : ℕ) → (block : List ℕ) → Type 0
TellsBlock key port address block = (card : CardState) → HasCard port key card → blocks_of card address ≡ block

-- what the counter read behind a write tells
abbrev pub AskTells : (key : List ℕ) → PortState → (counter : ℕ) → Asked → Type 0
AskTells key port counter Same = TellsCounter key port counter
AskTells key port counter Next = TellsCounter key port (counter + 1)
AskTells key port counter (Untold cause) = Unit {0}

-- no card is told that has the key and one of the two counters
abbrev pub NoneOfBoth : (key : List ℕ) → (counter : ℕ) → Devices → Type 0
NoneOfBoth key counter d = (card : CardState) → HasCard d.port key card → (card.counter ≡ counter) ⊎ (card.counter ≡ counter + 1) → ⊥

-- where it told nothing its cause stands; else no count rose
abbrev pub AskCause : (key : List ℕ) → (counter : ℕ) → (old new : Devices) → Asked → Type 0
AskCause key counter old new (Untold cause) = CauseStands (NoneOfBoth key counter old) key old new cause
AskCause key counter old new told = (new.port.faults ≡ old.port.faults) × (new.draws ≡ old.draws)

abbrev pub AskOfNoCard : Asked → Type 0
AskOfNoCard (Untold cause) = NotOfCard cause
AskOfNoCard told = Unit {0}

abbrev pub AskOfNoDraw : Asked → Type 0
AskOfNoDraw (Untold cause) = NotDrawn cause
AskOfNoDraw told = Unit {0}

-- how far the counter goes that a store keeps
abbrev pub CounterAfter : (old new : ℕ) → WriteEnd → Type 0
CounterAfter old new Landed = new ≡ old + 1
CounterAfter old new (Lost cause) = new ≡ old
CounterAfter old new (Unknown cause) = new ≡ old

-- the card behind a write, by its end
abbrev pub EndLeaves : (key : List ℕ) → PortState → (card : CardState) → (address counter : ℕ) → (block : List ℕ) → WriteEnd → Type 0
EndLeaves key new card address counter block Landed = HasCard new key (written_card card address counter block)
EndLeaves key new card address counter block (Lost cause) = HasCard new key card
EndLeaves key new card address counter block (Unknown cause) = HasCard new key card ⊎ HasCard new key (written_card card address counter block)

abbrev pub WriteLeaves : (key : List ℕ) → (old new : PortState) → (address counter : ℕ) → (block : List ℕ) → WriteEnd → Type 0
WriteLeaves key old new address counter block end =
    (card : CardState) → HasCard old key card → card.counter ≡ counter → EndLeaves key new card address counter block end

abbrev pub EndCause : (Besides : Type 0) → (key : List ℕ) → (old new : Devices) → WriteEnd → Type 0
EndCause Besides key old new Landed = Unit {0}
EndCause Besides key old new (Lost cause) = CauseStands Besides key old new cause
EndCause Besides key old new (Unknown cause) = CauseStands Besides key old new cause

abbrev pub EndOfNoCard : WriteEnd → Type 0
EndOfNoCard Landed = Unit {0}
EndOfNoCard (Lost cause) = NotOfCard cause
EndOfNoCard (Unknown cause) = NotOfCard cause

abbrev pub EndOfNoDraw : WriteEnd → Type 0
EndOfNoDraw Landed = Unit {0}
EndOfNoDraw (Lost cause) = NotDrawn cause
EndOfNoDraw (Unknown cause) = NotDrawn cause
