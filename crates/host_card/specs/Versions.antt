-- What is read of a block.
use Rattle.std.specs.Prelude.{◌≡◌, ℕ, ◌<◌, ◌≤◌, List, [], length, Option, Some, None, true, nat_lt, if◌then◌else◌, EachIndex, slice_index, slice_index_or, slice_set, max, replicate}
use Rattle.rpmb_frame.specs.Layout.{frame_of}
use Rattle.rpmb_card.specs.Card.{CardState}
use Rattle.host_card.specs.declared.versions.Version.{Version}
use Rattle.host_card.specs.declared.versions.Version.TheVariants.{Request, Clear, Bad}
use Rattle.host_card.specs.CardFile.{is_write_of, request_in, last_request, counter_behind, block_behind, IsClear, IsDamaged}

-- of two copies the first that is a write of the block
abbrev pub first_write : (key : List ℕ) (address : ℕ) (first second : List ℕ) → Option (List ℕ)
first_write key address first second =
    if is_write_of key address first then Some first
    else if is_write_of key address second then Some second
    else None

-- no byte but 0
abbrev pub AreZero : List ℕ → Type 0
AreZero bytes = EachIndex bytes (λ i. slice_index bytes i ≡ 0)

-- what two copies are
abbrev pub IsVersionOf : (key : List ℕ) (address : ℕ) (first second : List ℕ) → Version → Type 0
IsVersionOf key address first second (Request request) = first_write key address first second ≡ Some request
IsVersionOf key address first second Clear = (first_write key address first second ≡ None) × AreZero first × AreZero second
IsVersionOf key address first second Bad = (first_write key address first second ≡ None) × ¬ (AreZero first × AreZero second)

-- a request that was read is a write of the block
abbrev pub HasWrite : (key : List ℕ) (address : ℕ) → Version → Type 0
HasWrite key address (Request request) = is_write_of key address request ≡ true
HasWrite key address Clear = Unit {0}
HasWrite key address Bad = Unit {0}

-- what a version of a block is
abbrev pub IsVersion : (key bytes : List ℕ) (address version : ℕ) → Version → Type 0
IsVersion key bytes address version (Request request) = request_in key bytes address version ≡ Some request
IsVersion key bytes address version Clear = (request_in key bytes address version ≡ None) × IsClear bytes address version
IsVersion key bytes address version Bad = (request_in key bytes address version ≡ None) × ¬ IsClear bytes address version

-- the number of the version that may be written over: the one that is not in use, and of two requests the older one
abbrev pub spare_number : Version → Version → ℕ
spare_number (Request first) (Request second) = if nat_lt (frame_of first).counter (frame_of second).counter then 0 else 1
spare_number (Request first) Clear = 1
spare_number (Request first) Bad = 1
spare_number Clear (Request second) = 0
spare_number Bad (Request second) = 0
spare_number Clear Clear = 0
spare_number Bad Clear = 0
spare_number Clear Bad = 1
spare_number Bad Bad = 1

-- of two versions the newer request, or the one that is there; without a request, clear where one of them is
abbrev pub newest : Version → Version → Version
newest (Request first) (Request second) = if nat_lt (frame_of first).counter (frame_of second).counter then Request second else Request first
newest (Request first) Clear = Request first
newest (Request first) Bad = Request first
newest Clear (Request second) = Request second
newest Bad (Request second) = Request second
newest Clear Clear = Clear
newest Bad Clear = Clear
newest Clear Bad = Clear
newest Bad Bad = Bad

-- what a block is: written by this request last, or never written, or damaged
abbrev pub IsBlock : (key bytes : List ℕ) (address : ℕ) → Version → Type 0
IsBlock key bytes address (Request request) = (last_request key bytes address ≡ Some request) × ¬ IsDamaged key bytes address
IsBlock key bytes address Clear = (last_request key bytes address ≡ None) × ¬ IsDamaged key bytes address
IsBlock key bytes address Bad = IsDamaged key bytes address

-- the card after a block was put back
abbrev pub with_block : CardState → (address : ℕ) → Option (List ℕ) → CardState
with_block card address None = card
with_block card address (Some request) = record card {
  blocks = slice_set card.blocks address (block_behind (Some request));
  counter = max card.counter (counter_behind (Some request));
}

-- the first blocks were put back into a card that was never written, and none of them is damaged
pub record IsRestored (key bytes : List ℕ) (count : ℕ) (card : CardState) : Type 0 where
  pub has_key : card.key ≡ Some key
  pub blocks : length card.blocks ≡ 256
  pub block : (address : ℕ) → address < count → slice_index_or card.blocks address [] ≡ block_behind (last_request key bytes address)
  pub rest : (address : ℕ) → count ≤ address → address < 256 → slice_index_or card.blocks address [] ≡ replicate 256 0
  pub latest : (address : ℕ) → address < count → counter_behind (last_request key bytes address) ≤ card.counter
  pub least : (counter : ℕ) → ((address : ℕ) → address < count → counter_behind (last_request key bytes address) ≤ counter) → card.counter ≤ counter
  pub whole : (address : ℕ) → address < count → ¬ IsDamaged key bytes address
