-- What a call of a card store answers, as a reply of the finite map.
use Rattle.std.specs.Prelude.{ℕ, List, Result, Ok, Err}
use Rattle.card_maps.specs.Course as course
use Rattle.card_maps.specs.Course.{CardReply}
use Rattle.rpmb_files.specs.declared.fault.CardFault.{CardFault}
use Rattle.rpmb_files.specs.declared.fault.CardFault.TheVariants.{TooLarge, NotFound, Full, Spent, Device, Bad, NoMemory}
use Rattle.rpmb_files.specs.Devices.{Devices}
use Rattle.rpmb_files.specs.Causes.{CauseStands, NoCard, NotDrawn, NotOfCard}

abbrev pub fault_reply : CardFault → CardReply
fault_reply (TooLarge size) = course.TooLarge size
fault_reply NotFound = course.NotFound
fault_reply (Full need free) = course.Full need free
fault_reply Spent = course.Spent
fault_reply (Device cause) = course.Failed
fault_reply (Bad block offset) = course.NoReply
fault_reply NoMemory = course.Starved

abbrev pub done_reply : {A : Type 0} → Result A CardFault → CardReply
done_reply (Ok done) = course.Done
done_reply (Err fault) = fault_reply fault

abbrev pub found_reply : Result (List ℕ) CardFault → CardReply
found_reply (Ok bytes) = course.Found bytes
found_reply (Err fault) = fault_reply fault

-- the cause of a device's fault stands; a frame's besides this
abbrev pub FaultCause : (Besides : Type 0) → (key : List ℕ) → (old new : Devices) → CardFault → Type 0
FaultCause Besides key old new (Device cause) = CauseStands Besides key old new cause
FaultCause Besides key old new fault = Unit {0}

-- no card that has the key answers so
abbrev pub FaultStands : (key : List ℕ) → (old new : Devices) → CardFault → Type 0
FaultStands key old new fault = FaultCause (NoCard key old) key old new fault

abbrev pub OfNoCard : CardFault → Type 0
OfNoCard (Device cause) = NotOfCard cause
OfNoCard fault = Unit {0}

abbrev pub OfNoDraw : CardFault → Type 0
OfNoDraw (Device cause) = NotDrawn cause
OfNoDraw fault = Unit {0}

-- a device, or memory
abbrev pub IsOfReading : CardFault → Type 0
IsOfReading (Device cause) = Unit {0}
IsOfReading NoMemory = Unit {0}
IsOfReading fault = ⊥
