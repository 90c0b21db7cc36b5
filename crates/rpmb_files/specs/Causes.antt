-- Why a device's answer is no answer: a count of faults rose, or a frame that was heard is refused.
use Rattle.std.specs.Prelude.{◌≡◌, ◌≢◌, ◌⊎◌, ℕ, ◌+◌, List, [], length, slice_index_or, Ok, Err}
use Rattle.tee_ports.specs.Faults.{Rose}
use Rattle.rpmb_frame.specs.declared.frame.Frame.{Frame}
use Rattle.rpmb_card.specs.Card.{CardState}
use Rattle.rpmb_card.specs.Port.{IsHeard, PortState}
use Rattle.rpmb_host.specs.declared.fault.HostFault.{HostFault}
use Rattle.rpmb_host.specs.declared.fault.HostFault.TheVariants.{BadFrame, CardResult as RefusedBy}
use Rattle.rpmb_host.specs.declared.verdict.Wanted.{Wanted}
use Rattle.rpmb_host.specs.Calls.{block_wanted, counter_wanted, write_wanted}
use Rattle.rpmb_host.specs.Honest.{HasCard}
use Rattle.rpmb_host.specs.Verdict.{verdict}
use Rattle.tee_types.specs.declared.reply.Cause.{Cause}
use Rattle.tee_types.specs.declared.reply.Cause.TheVariants.{Fault, Frame as OfFrame, CardResult}
use Rattle.tee_types.specs.declared.reply.Device.TheVariants.{Dir, File, Card, Entropy}
use Rattle.tee_types.specs.declared.reply.FrameFault.TheVariants.{Counter}
use Rattle.rpmb_files.specs.Devices.{Devices}

-- no card is told that has the key; or none that has the counter besides
abbrev pub NoCard : (key : List ℕ) → Devices → Type 0
NoCard key d = (card : CardState) → HasCard d.port key card → ⊥

abbrev pub NoCardAt : (key : List ℕ) → (counter : ℕ) → Devices → Type 0
NoCardAt key counter d = (card : CardState) → HasCard d.port key card → card.counter ≡ counter → ⊥

-- what a card store wants of a frame: the counter, a block, or the result of a write
pub data IsAsked : Wanted → Type 0 where
  OfCounter : (nonce : List ℕ) → IsAsked (counter_wanted nonce)
  OfBlock : (address : ℕ) (nonce : List ℕ) → IsAsked (block_wanted address nonce)
  OfWrite : (address counter : ℕ) → IsAsked (write_wanted address counter)

-- a frame that was heard is refused so
pub record IsRefused (key : List ℕ) (port : PortState) (fault : HostFault) : Type 0 where
  pub frame : List ℕ
  pub heard : IsHeard port frame
  pub wanted : Wanted
  pub asked : IsAsked wanted
  pub refused : verdict key wanted frame ≡ Err fault

-- a frame that was heard tells a counter that is neither the old one nor the next
pub record IsNeither (key : List ℕ) (counter found : ℕ) (port : PortState) : Type 0 where
  pub frame : List ℕ
  pub heard : IsHeard port frame
  pub nonce : List ℕ
  pub answer : Frame
  pub verified : verdict key (counter_wanted nonce) frame ≡ Ok answer
  pub is : answer.counter ≡ found
  pub other : found ≢ counter
  pub not_next : found ≢ counter + 1

abbrev pub HeardCause : (key : List ℕ) → PortState → Cause → Type 0
HeardCause key port (Fault device count) = Unit {0}
HeardCause key port (OfFrame fault) =
    IsRefused key port (BadFrame fault) ⊎ ((counter found : ℕ) × (fault ≡ Counter (counter + 1) found) × IsNeither key counter found port)
HeardCause key port (CardResult result) = IsRefused key port (RefusedBy result)

-- A count rose and is carried; or a frame that was heard is refused, and then this holds besides.
abbrev pub CauseStands : (Besides : Type 0) → (key : List ℕ) → (old new : Devices) → Cause → Type 0
CauseStands Besides key old new (Fault Card count) = Rose old.port.faults new.port.faults × (count ≡ new.port.faults)
CauseStands Besides key old new (Fault Entropy count) = Rose old.draws new.draws × (count ≡ new.draws)
CauseStands Besides key old new (Fault Dir count) = ⊥
CauseStands Besides key old new (Fault (File n) count) = ⊥
CauseStands Besides key old new (OfFrame fault) = HeardCause key new.port (OfFrame fault) × Besides
CauseStands Besides key old new (CardResult result) = HeardCause key new.port (CardResult result) × Besides

-- the card's port did not fail
abbrev pub NotOfCard : Cause → Type 0
NotOfCard (Fault Card count) = ⊥
NotOfCard cause = Unit {0}

-- no draw failed
abbrev pub NotDrawn : Cause → Type 0
NotDrawn (Fault Entropy count) = ⊥
NotDrawn cause = Unit {0}

-- a draw failed: the count of those rose, and is carried
abbrev pub DrawFailed : (old new : ℕ) → Cause → Type 0
DrawFailed old new (Fault Entropy count) = Rose old new × (count ≡ new)
DrawFailed old new cause = ⊥

-- a frame that was heard tells this counter
pub record IsCounterHeard (key : List ℕ) (port : PortState) (counter : ℕ) : Type 0 where
  pub frame : List ℕ
  pub heard : IsHeard port frame
  pub nonce : List ℕ
  pub answer : Frame
  pub verified : verdict key (counter_wanted nonce) frame ≡ Ok answer
  pub is : answer.counter ≡ counter

-- the frame that was heard last is heard still
abbrev pub LastStays : (old new : PortState) → Type 0
LastStays old new = (k : ℕ) → k + 1 ≡ length old.heard → IsHeard new (slice_index_or old.heard k [])
