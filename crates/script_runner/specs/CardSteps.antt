-- What the lines of a script do to the store on the card.
use Rattle.std.specs.Prelude.{◌≡◌, ℕ, List, [], ◌∷◌, ◌++◌, IsTrue}
use Rattle.tee_types.specs.declared.reply.Cause.{Cause}
use Rattle.rpmb_card.specs.Arms.{arm_stop, no_arms}
use Rattle.rpmb_card.specs.Port.{PortState, Rearmed}
use Rattle.card_script.specs.declared.card_line.CardLine.{CardLine}
use Rattle.card_script.specs.declared.card_line.CardLine.TheVariants.{Put, Get, Remove, List as ListLine, Stop, Remount}
use Rattle.card_script.specs.declared.card_line.CardReply.TheVariants.{Done}
use Rattle.card_maps.specs.declared.name.CardName.{CardName}
use Rattle.card_maps.specs.Course as course
use Rattle.card_maps.specs.Names.{IsListing}
use Rattle.card_maps.specs.Tables.{named}
use Rattle.rpmb_files.specs.declared.fault.CardFault.{CardFault}
use Rattle.rpmb_files.specs.Causes.{CauseStands, NoCard, NotDrawn, NotOfCard}
use Rattle.rpmb_files.specs.Devices.{Devices, GoesOn, devices}
use Rattle.rpmb_files.specs.Stores.{ShowsNames, StoreState}
use Rattle.rpmb_files.specs.Calls.{Leaves, MountFaultStands, Mounts}
use Rattle.rpmb_files.specs.Replies.{OfNoCard, OfNoDraw}
use Rattle.script_runner.specs.CardRecords.{CardRecord, Named, Told, map_reply}

-- The names were given, as far as the store knows them; nothing else was done.
pub record GivesNames (old new : StoreState) (names : List CardName) : Type 0 where
  pub same : new ≡ old
  pub listing : IsListing old.shown names
  pub shown : ShowsNames old

-- The port was armed: it passes so many exchanges, and fails all later ones.
pub record Arms (old new : StoreState) (exchanges : ℕ) : Type 0 where
  pub port : Rearmed old.devices.port new.devices.port (arm_stop old.devices.port.arms exchanges)
  pub others : new ≡ record old { devices = devices new.devices.port old.devices.draws }

-- The store was mounted over these devices.
pub record MountsOn (key : List ℕ) (old : Devices) (new : StoreState) : Type 0 where
  -- over a card that has the key: the store has its map
  pub mounts : Mounts key old new
  pub settled : IsTrue new.settled
  pub key_is : new.key ≡ key
  pub card : new.devices.port.card ≡ old.port.card
  pub goes_on : GoesOn key old new.devices

-- The devices were given back and the port was disarmed.
pub record Disarms (old : StoreState) (new : Devices) : Type 0 where
  pub port : Rearmed old.devices.port new.port no_arms
  pub draws : new.draws ≡ old.devices.draws

pub record Remounts (old new : StoreState) : Type 0 where
  pub between : Devices
  pub disarms : Disarms old between
  pub mounts : MountsOn old.key between new

-- `Reliable` says that the generator of the nonces never fails
module _ (Reliable : Type 0) where
  -- A reply for a device has its cause: a count rose, or an answer of the card is refused, and then no card is told that has the key.
  pub record FailsFor (old new : StoreState) : Type 0 where
    pub cause : Cause
    pub stands : CauseStands (NoCard old.key old.devices) old.key old.devices new.devices cause
    pub calm : IsTrue old.devices.port.calm → NotOfCard cause
    pub reliable : Reliable → NotDrawn cause

  -- A call of the store was made, and answered so.
  pub record MakesCall (old new : StoreState) (call : course.CardCall) (reply : course.CardReply) : Type 0 where
    -- over a card that has the key: every exchange, and the reply
    pub leaves : Leaves old new call reply
    pub goes_on : GoesOn old.key old.devices new.devices
    pub key : new.key ≡ old.key
    pub failed : reply ≡ course.Failed → FailsFor old new

  -- The store was not mounted over these devices, and the card is as it was.
  pub record RefusesMount (key : List ℕ) (old new : Devices) (fault : CardFault) : Type 0 where
    pub stands : MountFaultStands key old new fault
    pub card : new.port.card ≡ old.port.card
    pub goes_on : GoesOn key old new
    pub calm : IsTrue old.port.calm → OfNoCard fault
    pub reliable : Reliable → OfNoDraw fault

  -- What a line did that has this record.
  abbrev pub DoesLine : CardLine → CardRecord → (old new : StoreState) → Type 0
  DoesLine (Put app id bytes) (Told reply) old new = MakesCall old new (course.Put (named app id) bytes) (map_reply reply)
  DoesLine (Get app id) (Told reply) old new = MakesCall old new (course.Get (named app id)) (map_reply reply)
  DoesLine (Remove app id) (Told reply) old new = MakesCall old new (course.Remove (named app id)) (map_reply reply)
  DoesLine ListLine (Named names) old new = GivesNames old new names
  DoesLine (Stop exchanges) (Told reply) old new = (reply ≡ Done) × Arms old new exchanges
  DoesLine Remount (Told reply) old new = (reply ≡ Done) × Remounts old new
  DoesLine line done old new = ⊥

  -- These lines were done one after another, and these are their records.
  unfoldable pub GoesThrough : List CardLine → List CardRecord → (old new : StoreState) → Type 0
  GoesThrough [] [] old new = new ≡ old
  GoesThrough [] (done ∷ records) old new = ⊥
  GoesThrough (line ∷ lines) [] old new = ⊥
  GoesThrough (line ∷ lines) (done ∷ records) old new = (between : StoreState) × DoesLine line done old between × GoesThrough lines records between new

  -- The store was mounted on a port, and the first of the lines were done; these are left.
  pub record StandsAt (key : List ℕ) (lines : List CardLine) (handed : PortState) (records : List CardRecord) (left : List CardLine) (last : StoreState) : Type 0 where
    pub first : StoreState
    pub mounted : MountsOn key (devices handed 0) first
    pub done : List CardLine
    pub front : lines ≡ done ++ left
    pub goes : GoesThrough done records first last

  -- A mount was refused: the first, or that of a line.
  pub data IsRefusedAt (key : List ℕ) (lines : List CardLine) (handed given : PortState) (records : List CardRecord) (fault : CardFault) : Type 0 where
    at_first : (draws : ℕ) → records ≡ [] → RefusesMount key (devices handed 0) (devices given draws) fault → IsRefusedAt key lines handed given records fault
    at_line : (left : List CardLine) (last : StoreState) (between : Devices) (draws : ℕ)
        → StandsAt key lines handed records (Remount ∷ left) last → Disarms last between → RefusesMount last.key between (devices given draws) fault
        → IsRefusedAt key lines handed given records fault
