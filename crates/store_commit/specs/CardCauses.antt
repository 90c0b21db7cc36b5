-- The causes that the card's part of a commit gives.
use Rattle.std.specs.Prelude.{◌≡◌, ◌⊎◌, ◌≤◌, ℕ, ◌+◌, List}
use Rattle.disk_model.specs.Faults.{Rose}
use Rattle.rpmb_card.specs.Card.{CardState}
use Rattle.rpmb_card.specs.Port.{PortState}
use Rattle.rpmb_host.specs.Honest.{HasCard}
use Rattle.rpmb_host.specs.declared.fault.HostFault.{HostFault}
use Rattle.rpmb_host.specs.declared.fault.HostFault.TheVariants.{Failed, BadFrame, CardResult as RefusedBy, Spent}
use Rattle.tee_types.specs.declared.reply.Cause.{Cause}
use Rattle.tee_types.specs.declared.reply.Cause.TheVariants.{Fault, Frame, CardResult}
use Rattle.tee_types.specs.declared.reply.Device.TheVariants.{Dir, File, Card, Entropy}
use Rattle.store_commit.specs.declared.change.CardEnd.{CardEnd}
use Rattle.store_commit.specs.declared.change.CardEnd.TheVariants.{Landed, Lost, Unknown}
use Rattle.store_commit.specs.Causes.{CostsTwice, NoCard}

-- the cause that a fault of the host is; none is that the counter is spent
abbrev pub FaultIs : HostFault → Cause → Type 0
FaultIs (Failed count) cause = cause ≡ Fault Card count
FaultIs (BadFrame fault) cause = cause ≡ Frame fault
FaultIs (RefusedBy result) cause = cause ≡ CardResult result
FaultIs Spent cause = ⊥

-- the port's count rose, or the card is not honest
abbrev pub PortCause : (key : List ℕ) → (counter : ℕ) → (old new : PortState) → Cause → Type 0
PortCause key counter old new (Fault Card count) = Rose old.faults new.faults × (count ≡ new.faults)
PortCause key counter old new (Fault Dir count) = ⊥
PortCause key counter old new (Fault (File n) count) = ⊥
PortCause key counter old new (Fault Entropy count) = ⊥
PortCause key counter old new (Frame fault) = NoCard old key counter
PortCause key counter old new (CardResult result) = NoCard old key counter

-- the cause is one of a frame, and no count
abbrev pub IsOfFrame : Cause → Type 0
IsOfFrame (Fault device count) = ⊥
IsOfFrame (Frame fault) = Unit {0}
IsOfFrame (CardResult result) = Unit {0}

-- the cause of a write that was not confirmed
abbrev pub IsCardFault : (key : List ℕ) → (counter : ℕ) → (old new : PortState) → CardEnd → Type 0
IsCardFault key counter old new Landed = Unit {0}
IsCardFault key counter old new (Lost why) = PortCause key counter old new why
IsCardFault key counter old new (Unknown why) = PortCause key counter old new why × CostsTwice key counter old new

-- What a counter read tells of a write that was not confirmed, over a card that has the key and one of the two counters.
abbrev pub AskCause : (key : List ℕ) → (counter : ℕ) → (old new : PortState) → Cause → CardEnd → Type 0
AskCause key counter old new cause Landed = new.faults ≡ old.faults
AskCause key counter old new cause (Lost why) = (new.faults ≡ old.faults) × (why ≡ cause)
AskCause key counter old new cause (Unknown why) =
    (Rose old.faults new.faults × (why ≡ Fault Card new.faults))
    ⊎ (((card : CardState) → HasCard old key card → (card.counter ≡ counter) ⊎ (card.counter ≡ counter + 1) → ⊥) × IsOfFrame why)

-- the port's count: a failure raised it and is carried; no other answer that was given up did
abbrev pub CardCounts : (old new : PortState) → CardEnd → Type 0
CardCounts old new Landed = old.faults ≤ new.faults
CardCounts old new (Lost (Fault device count)) = Rose old.faults new.faults × (count ≡ new.faults)
CardCounts old new (Lost cause) = new.faults ≡ old.faults
CardCounts old new (Unknown (Fault device count)) = Rose old.faults new.faults × (count ≡ new.faults)
CardCounts old new (Unknown cause) = old.faults ≤ new.faults

-- over a calm port no count is a cause, and the counter read leaves the write's
abbrev pub AskCalm : Cause → CardEnd → Type 0
AskCalm before Landed = Unit {0}
AskCalm before (Lost why) = why ≡ before
AskCalm before (Unknown why) = IsOfFrame why

abbrev pub CardCalm : CardEnd → Type 0
CardCalm Landed = Unit {0}
CardCalm (Lost why) = IsOfFrame why
CardCalm (Unknown why) = IsOfFrame why
