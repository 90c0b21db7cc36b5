-- Calls of a card store in a row: the replies, and the maps between, are those of a finite map.
use Rattle.std.specs.Prelude.{◌≡◌, ◌⊎◌, ℕ, ◌+◌, ◌<◌, ◌≤◌, cond, Bool, true, false, List, [], ◌∷◌, ◌++◌, length, Option, Some, None, IsSome}
use Rattle.store_model.specs.declared.name.ObjectName.{ObjectName}
use Rattle.store_model.specs.Name.{name_eq}
use Rattle.rpmb_card.specs.Protocol.{last_counter}
use Rattle.card_maps.specs.declared.name.CardName.{CardName}
use Rattle.card_maps.specs.Form.{most_card_bytes}
use Rattle.card_maps.specs.CardMaps.{CardMap, blocks_free, blocks_needed, bytes_at}
use Rattle.card_maps.specs.Names.{IsListing, names_of}

pub data CardCall : Type 0 where
  Get : ObjectName → CardCall
  Put : ObjectName → List ℕ → CardCall
  Remove : ObjectName → CardCall
  ListNames : CardCall

-- Failed is that a device failed, or that what the card answered is refused; Starved, that memory ran out; NoReply, what no call of a
-- store answers.
pub data CardReply : Type 0 where
  Done : CardReply
  Found : List ℕ → CardReply
  Listed : List CardName → CardReply
  TooLarge : (size : ℕ) → CardReply
  NotFound : CardReply
  Full : (need free : ℕ) → CardReply
  Spent : CardReply
  Failed : CardReply
  Starved : CardReply
  NoReply : CardReply

-- What stands between two calls: the map of the card, the names that a list would give, and whether the store knows that they are the
-- map's. It does not where a write was not confirmed, until the card was read again.
pub record CardSide : Type 0 where
  pub map : CardMap
  pub shown : List CardName
  pub settled : Bool

abbrev pub side : CardMap → List CardName → Bool → CardSide
side m shown settled = record { map = m; shown = shown; settled = settled }

-- the map n is the map m with a change under a name
abbrev pub IsChanged : CardMap → ObjectName → Option (List ℕ) → CardMap → Type 0
IsChanged m name bytes n = (other : ObjectName) → bytes_at n other ≡ cond (name_eq name other) bytes (bytes_at m other)

-- The map is as it was, and the names are the map's.
pub record IsRead (a b : CardSide) : Type 0 where
  pub map : b.map ≡ a.map
  pub shown : b.shown ≡ names_of a.map
  pub settled : b.settled ≡ true

-- What was not known is not known still, and nothing else was done.
pub record StaysUnread (a b : CardSide) : Type 0 where
  pub was : a.settled ≡ false
  pub same : b ≡ a

-- The change was made.
pub record IsMade (a : CardSide) (name : ObjectName) (bytes : Option (List ℕ)) (b : CardSide) : Type 0 where
  pub map : IsChanged a.map name bytes b.map
  pub shown : b.shown ≡ names_of b.map
  pub settled : b.settled ≡ true

-- The change was begun: it was not made, or it was, and this is not known. The names are those without it.
pub record IsBegun (a : CardSide) (name : ObjectName) (bytes : Option (List ℕ)) (b : CardSide) : Type 0 where
  pub map : (b.map ≡ a.map) ⊎ ((b.settled ≡ false) × IsChanged a.map name bytes b.map)
  pub shown : b.shown ≡ names_of a.map

-- how many blocks of the card a put writes: those of the object, and the map block
abbrev pub writes_of : (size : ℕ) → ℕ
writes_of size = blocks_needed size + 1

-- the object fits, and the counter leaves room for its writes
pub record HasRoom (m : CardMap) (counter size : ℕ) : Type 0 where
  pub small : size ≤ most_card_bytes
  pub fits : blocks_needed size ≤ blocks_free m
  pub writes : counter + writes_of size ≤ last_counter

-- What a call answers where these stand before it and the card's counter is at that number, and what it leaves.
abbrev pub Answers : CardSide → (counter : ℕ) → CardCall → CardReply → CardSide → Type 0
Answers a counter (Get name) (Found bytes) b = (bytes_at a.map name ≡ Some bytes) × IsRead a b
Answers a counter (Get name) NotFound b = (bytes_at a.map name ≡ None) × IsRead a b
Answers a counter (Get name) Failed b = (IsSome (bytes_at a.map name) × IsRead a b) ⊎ StaysUnread a b
Answers a counter (Get name) Starved b = IsSome (bytes_at a.map name) × IsRead a b
Answers a counter (Get name) _ b = ⊥
Answers a counter (Put name bytes) (TooLarge size) b = (most_card_bytes < length bytes) × (size ≡ length bytes) × (b ≡ a)
Answers a counter (Put name bytes) (Full need free) b =
    (length bytes ≤ most_card_bytes) × (free < need) × (need ≡ blocks_needed (length bytes)) × (free ≡ blocks_free a.map) × IsRead a b
Answers a counter (Put name bytes) Spent b =
    (length bytes ≤ most_card_bytes) × (blocks_needed (length bytes) ≤ blocks_free a.map) × (last_counter < counter + writes_of (length bytes)) × IsRead a b
Answers a counter (Put name bytes) Done b = HasRoom a.map counter (length bytes) × IsMade a name (Some bytes) b
Answers a counter (Put name bytes) Failed b =
    (HasRoom a.map counter (length bytes) × IsBegun a name (Some bytes) b) ⊎ ((length bytes ≤ most_card_bytes) × StaysUnread a b)
Answers a counter (Put name bytes) _ b = ⊥
Answers a counter (Remove name) NotFound b = (bytes_at a.map name ≡ None) × IsRead a b
Answers a counter (Remove name) Spent b = IsSome (bytes_at a.map name) × (last_counter < counter + 1) × IsRead a b
Answers a counter (Remove name) Done b = IsSome (bytes_at a.map name) × (counter + 1 ≤ last_counter) × IsMade a name None b
Answers a counter (Remove name) Failed b = (IsSome (bytes_at a.map name) × (counter + 1 ≤ last_counter) × IsBegun a name None b) ⊎ StaysUnread a b
Answers a counter (Remove name) _ b = ⊥
Answers a counter ListNames (Listed names) b = IsListing a.shown names × (b ≡ a)
Answers a counter ListNames Starved b = b ≡ a
Answers a counter ListNames _ b = ⊥

-- one call: what was called and answered, the card's counter before it, and what stands behind it
pub record CardEvent : Type 0 where
  pub call : CardCall
  pub reply : CardReply
  pub counter : ℕ
  pub left : CardSide

-- each call is answered from what the one before it left
abbrev pub IsCourse : CardSide → List CardEvent → CardSide → Type 0
IsCourse a [] b = b ≡ a
IsCourse a (event ∷ events) b = Answers a event.counter event.call event.reply event.left × IsCourse event.left events b

-- A finite map as a function: what stands under each name.
abbrev pub Objects : Type 0
Objects = ObjectName → Option (List ℕ)

-- with a change under a name
abbrev pub changed : Objects → ObjectName → Option (List ℕ) → Objects
changed objects name bytes other = cond (name_eq name other) bytes (objects other)

-- The objects after a call, where of a call that failed it is told whether it took effect.
abbrev pub objects_after : (took : Bool) → CardCall → CardReply → Objects → Objects
objects_after took (Put name bytes) Done objects = changed objects name (Some bytes)
objects_after took (Put name bytes) Failed objects = cond took (changed objects name (Some bytes)) objects
objects_after took (Remove name) Done objects = changed objects name None
objects_after took (Remove name) Failed objects = cond took (changed objects name None) objects
objects_after took call reply objects = objects

-- what the reply says of the objects
abbrev pub Says : Objects → CardCall → CardReply → Type 0
Says objects (Get name) (Found bytes) = objects name ≡ Some bytes
Says objects (Get name) NotFound = objects name ≡ None
Says objects (Remove name) NotFound = objects name ≡ None
Says objects (Remove name) Done = IsSome (objects name)
Says objects call reply = Unit {0}

-- The replies are those of these objects, changed by each call that was done, and by those of the failed ones that took effect.
abbrev pub AreReplies : Objects → List CardEvent → (took : List Bool) → Objects → Type 0
AreReplies objects [] [] end = (name : ObjectName) → end name ≡ objects name
AreReplies objects [] (took ∷ tooks) end = ⊥
AreReplies objects (event ∷ events) [] end = ⊥
AreReplies objects (event ∷ events) (took ∷ tooks) end =
    Says objects event.call event.reply × AreReplies (objects_after took event.call event.reply objects) events tooks end

-- The replies of a course are those of a finite map, and so is the map that it leaves.
abbrev pub CoursesAreOfAMap : Type 0
CoursesAreOfAMap =
    (a b : CardSide) (events : List CardEvent) → IsCourse a events b → (tooks : List Bool) × AreReplies (bytes_at a.map) events tooks (bytes_at b.map)

-- A course goes on by one more call.
abbrev pub CoursesGoOn : Type 0
CoursesGoOn =
    (a b : CardSide) (events : List CardEvent) (event : CardEvent) → IsCourse a events b → Answers b event.counter event.call event.reply event.left
    → IsCourse a (events ++ event ∷ []) event.left
