-- The lines of a script over a card that has the key: its map, and the names that the store shows, line by line.
use Rattle.std.specs.Prelude.{◌≡◌, ◌+◌, ℕ, List, [], ◌∷◌, true, Ok, IsTrue, slice_index_or}
use Rattle.rpmb_card.specs.Card.{CardState}
use Rattle.card_script.specs.declared.card_line.CardLine.{CardLine}
use Rattle.card_script.specs.declared.card_line.CardLine.TheVariants.{Put, Get, Remove, List as ListLine, Stop, Remount}
use Rattle.card_script.specs.declared.card_line.CardReply.TheVariants.{Device}
use Rattle.card_maps.specs.declared.name.CardName.{CardName}
use Rattle.card_maps.specs.CardMaps.{CardMap, card_map}
use Rattle.card_maps.specs.Course as course
use Rattle.card_maps.specs.Course.{Answers, CardSide, side}
use Rattle.card_maps.specs.Names.{IsListing, names_of}
use Rattle.card_maps.specs.Tables.{named}
use Rattle.rpmb_files.specs.Calls.{CallRuns, writes_in}
use Rattle.script_runner.specs.CardRecords.{CardRecord, Named, Told, map_reply}

-- a card, and what stands between two lines: its map, and the names that the store shows
pub record CardPoint : Type 0 where
  pub card : CardState
  pub stands : CardSide

-- the store was mounted on the card, and knows its map
abbrev pub mounted_on : CardState → CardMap → CardPoint
mounted_on card m = record { card = card; stands = side m (names_of m) true }

-- A call was answered from the map and the counter of the card.
pub record CallOnCard (call : course.CardCall) (reply : course.CardReply) (old new : CardPoint) : Type 0 where
  pub is : card_map new.card ≡ Ok new.stands.map
  -- at every exchange the card has the map before or the map after
  pub runs : CallRuns old.stands.map call old.card new.card
  -- block 0 is never written
  pub first : slice_index_or new.card.blocks 0 [] ≡ slice_index_or old.card.blocks 0 []
  pub answers : Answers old.stands old.card.counter call reply new.stands
  pub counter : reply ≡ course.Done → new.card.counter ≡ old.card.counter + writes_in call

-- The names that are shown were given; they are the map's, unless a write was not confirmed and the card was not read since.
pub record ListOnCard (names : List CardName) (old new : CardPoint) : Type 0 where
  pub same : new ≡ old
  pub listing : IsListing old.stands.shown names
  pub known : IsTrue old.stands.settled → old.stands.shown ≡ names_of old.stands.map

-- What a line did that has this record.
abbrev pub LineOnCard : CardLine → CardRecord → (old new : CardPoint) → Type 0
LineOnCard (Put app id bytes) (Told reply) old new = CallOnCard (course.Put (named app id) bytes) (map_reply reply) old new
LineOnCard (Get app id) (Told reply) old new = CallOnCard (course.Get (named app id)) (map_reply reply) old new
LineOnCard (Remove app id) (Told reply) old new = CallOnCard (course.Remove (named app id)) (map_reply reply) old new
LineOnCard ListLine (Named names) old new = ListOnCard names old new
LineOnCard (Stop exchanges) (Told reply) old new = new ≡ old
LineOnCard Remount (Told reply) old new = new ≡ mounted_on old.card old.stands.map
LineOnCard line done old new = ⊥

-- These lines were done one after another, and these are their records.
unfoldable pub LinesOnCard : List CardLine → List CardRecord → (old new : CardPoint) → Type 0
LinesOnCard [] [] old new = new ≡ old
LinesOnCard [] (done ∷ records) old new = ⊥
LinesOnCard (line ∷ lines) [] old new = ⊥
LinesOnCard (line ∷ lines) (done ∷ records) old new = (between : CardPoint) × LineOnCard line done old between × LinesOnCard lines records between new

-- how many of the replies are for a device
abbrev pub device_replies : List CardRecord → ℕ
device_replies [] = 0
device_replies (Told Device ∷ records) = 1 + device_replies records
device_replies (done ∷ records) = device_replies records
