-- What resolving a doubt answers.
use Rattle.std.specs.Prelude.{◌≡◌, ◌≢◌, ◌⊎◌, ◌+◌, ℕ, List, Option, None, Result, Ok, Err}
use Rattle.disk_model.specs.Faults.{Rose}
use Rattle.rpmb_card.specs.Card.{CardState}
use Rattle.rpmb_card.specs.Port.{Exchanged, PortState}
use Rattle.rpmb_host.specs.declared.fault.HostFault.{HostFault}
use Rattle.rpmb_host.specs.Calls.{counter_wanted, judged, received, told}
use Rattle.rpmb_host.specs.Honest.{HasCard}
use Rattle.rpmb_host.specs.Requests.{counter_request}
use Rattle.tee_types.specs.declared.reply.Cause.{Cause}
use Rattle.tee_types.specs.declared.reply.Cause.TheVariants.{Fault, Frame}
use Rattle.tee_types.specs.declared.reply.FrameFault.TheVariants.{Counter}
use Rattle.tee_types.specs.declared.reply.Device.TheVariants.{Card}
use Rattle.crash_core.specs.EntryChanges.{changed}
use Rattle.store_commit.specs.declared.resolve.Resolved.{Resolved}
use Rattle.store_commit.specs.declared.resolve.Resolved.TheVariants.{Landed, Dropped}
use Rattle.crash_core.specs.declared.change.DoubtedChange.{DoubtedChange}
use Rattle.store_commit.specs.CardCauses.{FaultIs, IsOfFrame}
use Rattle.store_commit.specs.Holds.{EndsHoldOf}
use Rattle.store_commit.specs.Sides.{EachPicture, IsSettled, Sides}

-- the answer that a counter means
abbrev pub Meant : (counter found : ℕ) → Result Resolved Cause → Type 0
Meant counter found (Ok (Landed n)) = (found ≡ counter + 1) × (n ≡ counter + 1)
Meant counter found (Ok (Dropped n)) = (found ≡ counter) × (n ≡ counter + 1)
Meant counter found (Err cause) = (found ≢ counter) × (found ≢ counter + 1) × (cause ≡ Frame (Counter (counter + 1) found))

abbrev pub IsErrOf : HostFault → Result Resolved Cause → Type 0
IsErrOf fault (Ok done) = ⊥
IsErrOf fault (Err cause) = FaultIs fault cause

abbrev pub MeantBy : (counter : ℕ) → Result ℕ HostFault → Result Resolved Cause → Type 0
MeantBy counter (Ok found) result = Meant counter found result
MeantBy counter (Err fault) result = IsErrOf fault result

-- One exchange with the card, a read of its counter; the answer is what the verdict on it means.
pub record IsAnswered (key : List ℕ) (counter : ℕ) (nonce : List ℕ) (old new : PortState) (result : Result Resolved Cause) : Type 0 where
  pub read : Result ℕ HostFault
  pub exchanged : Exchanged old new (counter_request nonce) (received new read)
  pub judged_so : read ≡ told (λ f. f.counter) (judged key (counter_wanted nonce) (received new read))
  pub meant : MeantBy counter read result

-- what the counter of a card that has the key then is
abbrev pub TellsCounter : (key : List ℕ) → (counter : ℕ) → PortState → Result Resolved Cause → Type 0
TellsCounter key counter port (Ok (Landed n)) = (card : CardState) → HasCard port key card → card.counter ≡ counter + 1
TellsCounter key counter port (Ok (Dropped n)) = (card : CardState) → HasCard port key card → card.counter ≡ counter
TellsCounter key counter port (Err cause) = Unit {0}

-- the doubt that is left
abbrev pub LeavesDoubt : (old new : Option DoubtedChange) → Result Resolved Cause → Type 0
LeavesDoubt old new (Ok how) = new ≡ None
LeavesDoubt old new (Err cause) = new ≡ old

-- both outcomes end the hold on the file that the doubted change puts
abbrev pub ResolvesHolds : DoubtedChange → Result Resolved Cause → (old new : List (Option ℕ)) → Type 0
ResolvesHolds d (Ok how) old new = EndsHoldOf d.change old new
ResolvesHolds d (Err cause) old new = new ≡ old

-- Why a doubt stays: the port's count rose, or no card is told that has the key and one of the two counters.
abbrev pub StaysDoubted : (key : List ℕ) → (counter : ℕ) → (old new : PortState) → Cause → Type 0
StaysDoubted key counter old new cause =
    (Rose old.faults new.faults × (cause ≡ Fault Card new.faults))
    ⊎ (((card : CardState) → HasCard old key card → (card.counter ≡ counter) ⊎ (card.counter ≡ counter + 1) → ⊥) × IsOfFrame cause)

-- the doubted commit landed
pub record IsLanded (old new : Sides) (d : DoubtedChange) (n : ℕ) : Type 0 where
  pub number : n ≡ d.number
  pub counted : new.counter ≡ n
  pub entries : new.dir.entries ≡ changed old.dir.entries d.change
  pub tsk : new.dir.tsk ≡ old.dir.tsk
  pub format : new.dir.root.format ≡ old.dir.root.format
  pub settled : IsSettled new
  pub pictures : EachPicture new (λ m. m ≡ Ok (changed old.dir.entries d.change))

-- it did not land
pub record IsUndone (old new : Sides) (d : DoubtedChange) (n : ℕ) : Type 0 where
  pub number : n ≡ d.number
  pub counted : new.counter ≡ old.counter
  pub same : new.dir ≡ record old.dir { stage = None }
  pub settled : IsSettled new
  pub pictures : EachPicture new (λ m. m ≡ Ok old.dir.entries)

-- nobody knows
pub record IsUnresolved (old new : Sides) (d : DoubtedChange) : Type 0 where
  pub same : new ≡ record old { port = new.port }
  pub pictures : EachPicture new (λ m. (m ≡ Ok old.dir.entries) ⊎ (m ≡ Ok (changed old.dir.entries d.change)))

abbrev pub Resolves : (old new : Sides) → DoubtedChange → Result Resolved Cause → Type 0
Resolves old new d (Ok (Landed n)) = IsLanded old new d n
Resolves old new d (Ok (Dropped n)) = IsUndone old new d n
Resolves old new d (Err cause) = IsUnresolved old new d
