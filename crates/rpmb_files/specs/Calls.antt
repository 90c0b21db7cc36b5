-- What a call of a card store leaves.
use Rattle.std.specs.Prelude.{◌≡◌, ℕ, ◌+◌, List, [], length, slice_index_or, Ok, Err}
use Rattle.rpmb_card.specs.Card.{CardState}
use Rattle.rpmb_host.specs.Honest.{HasCard}
use Rattle.card_maps.specs.CardMaps.{CardMap, card_map}
use Rattle.card_maps.specs.Steps.{PutRuns, RemoveRuns}
use Rattle.card_maps.specs.Course.{Answers, CardCall, CardReply, Done, Get, ListNames, Put, Remove, side, writes_of}
use Rattle.card_maps.specs.Names.{names_of}
use Rattle.rpmb_files.specs.declared.fault.CardFault.{CardFault}
use Rattle.rpmb_files.specs.declared.fault.CardFault.TheVariants.{Device, Bad, NoMemory}
use Rattle.rpmb_files.specs.Devices.{Devices}
use Rattle.rpmb_files.specs.Causes.{CauseStands, NoCard}
use Rattle.rpmb_files.specs.Stores.{OverCards, StoreState}

-- What a call does to the card, at every exchange: reads leave it, and each write leaves the map before or the map after.
abbrev pub CallRuns : CardMap → CardCall → CardState → CardState → Type 0
CallRuns m (Get name) old new = new ≡ old
CallRuns m (Put name bytes) old new = PutRuns m name bytes old new
CallRuns m (Remove name) old new = RemoveRuns m name old new
CallRuns m ListNames old new = new ≡ old

-- how many blocks a call writes that is done
abbrev pub writes_in : CardCall → ℕ
writes_in (Get name) = 0
writes_in (Put name bytes) = writes_of (length bytes)
writes_in (Remove name) = 1
writes_in ListNames = 0

-- What a call leaves that began over this card, with this map, and was answered so.
pub record CallLeaves (old new : StoreState) (call : CardCall) (reply : CardReply) (card : CardState) (m : CardMap) : Type 0 where
  -- the card behind the call, and its map
  pub left : CardState
  pub objects : CardMap
  pub has : HasCard new.devices.port new.key left
  pub is : card_map left ≡ Ok objects
  -- each state of the card between has the map before or the map after
  pub runs : CallRuns m call card left
  -- block 0 is never written
  pub first : slice_index_or left.blocks 0 [] ≡ slice_index_or card.blocks 0 []
  -- the reply is the finite map's
  pub answers : Answers (side m old.shown old.settled) card.counter call reply (side objects new.shown new.settled)
  -- where the call was done, so many blocks were written
  pub counter : reply ≡ Done → left.counter ≡ card.counter + writes_in call

-- Over a card that has the key, whatever the store remembers of a write that was not confirmed.
abbrev pub Leaves : StoreState → StoreState → CardCall → CardReply → Type 0
Leaves old new call reply = OverCards old (CallLeaves old new call reply)

-- A store that was mounted knows the map of a card that has the key; the card is as it was.
pub record IsMounted (key : List ℕ) (old : Devices) (new : StoreState) (card : CardState) : Type 0 where
  pub objects : CardMap
  pub is : card_map card ≡ Ok objects
  pub has : HasCard new.devices.port new.key card
  pub shown : new.shown ≡ names_of objects

abbrev pub Mounts : (key : List ℕ) → Devices → StoreState → Type 0
Mounts key old new = (card : CardState) → HasCard old.port key card → IsMounted key old new card

-- Why there is no mount: the first byte of the card that is outside the form; a device; memory.
abbrev pub MountFaultStands : (key : List ℕ) → (old new : Devices) → CardFault → Type 0
MountFaultStands key old new (Bad block offset) =
    (card : CardState) → HasCard old.port key card → card_map card ≡ Err (record { block = block; offset = offset })
MountFaultStands key old new (Device cause) = CauseStands (NoCard key old) key old new cause
MountFaultStands key old new NoMemory = Unit {0}
MountFaultStands key old new fault = ⊥
