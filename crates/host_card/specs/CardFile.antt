-- A card in a file: a header of 512 bytes, and behind it the 256 blocks of the card. Each block has room for two versions, and
-- a version is the request that wrote the block (JESD84-B51, 6.6.22.4.3), in two copies. So a change never touches what stands.
-- The file ends with a sector that is never written, since a crash may leave a file shorter where it was writing its end.
use Rattle.std.specs.Prelude.{◌≡◌, ℕ, ◌+◌, ◌*◌, ◌<◌, ◌≤◌, ◌==◌, ◌&&◌, nat_lt, if◌then◌else◌, List, [], ◌++◌, length, map, take, replicate, get_or, slice_index_or, codes, Bool, Option, None, Some}
use Rattle.std.specs.List.{range_with_len}
use Rattle.hmac_keys.specs.Hmac.{hmac}
use Rattle.rpmb_frame.specs.Layout.{frame_of}
use Rattle.rpmb_card.specs.Protocol.{write_block_kind, last_counter}
use Rattle.rpmb_card.specs.Card.{CardState, is_authentic}

-- the name and the version of the format
abbrev pub magic : List ℕ
magic = codes "RPMB card, no. 1"

-- what the header begins with: the name, and its MAC under the card's key
abbrev pub header : (key : List ℕ) → List ℕ
header key = magic ++ hmac key magic

abbrev pub header_length : ℕ
header_length = 512

-- how long the file is, at least
abbrev pub file_length : ℕ
file_length = 525_312

-- it is the file of a card with this key
pub record IsCardFile (key bytes : List ℕ) : Type 0 where
  pub whole : file_length ≤ length bytes
  pub header : take 48 bytes ≡ header key

-- where a version of a block begins; the versions are 0 and 1
abbrev pub version_at : (address version : ℕ) → ℕ
version_at address version = header_length + 2048 * address + 1024 * version

-- the 512 bytes from a place on; where there is none, 0
abbrev pub request_at : List ℕ → ℕ → List ℕ
request_at bytes place = map (λ p. get_or bytes p 0) (range_with_len place 512)

-- a request to write one block, which the card with this key takes where its counter is the request's
abbrev pub is_write_of : (key : List ℕ) (address : ℕ) (request : List ℕ) → Bool
is_write_of key address request =
    let f = frame_of request in
    f.kind == write_block_kind && f.count == 1 && f.address == address && nat_lt f.counter last_counter && is_authentic (Some key) request

-- the request of a version: of its copies the first that is one
abbrev pub request_in : (key bytes : List ℕ) (address version : ℕ) → Option (List ℕ)
request_in key bytes address version =
    let first = request_at bytes (version_at address version) in
    let second = request_at bytes (version_at address version + 512) in
    if is_write_of key address first then Some first
    else if is_write_of key address second then Some second
    else None

-- the card's counter behind a request, and of a block that was never written
abbrev pub counter_behind : Option (List ℕ) → ℕ
counter_behind None = 0
counter_behind (Some request) = (frame_of request).counter + 1

-- which version of a block is the newer one
abbrev pub newer_version : (key bytes : List ℕ) (address : ℕ) → ℕ
newer_version key bytes address =
    if nat_lt (counter_behind (request_in key bytes address 0)) (counter_behind (request_in key bytes address 1)) then 1 else 0

-- the request that wrote a block last
abbrev pub last_request : (key bytes : List ℕ) (address : ℕ) → Option (List ℕ)
last_request key bytes address = request_in key bytes address (newer_version key bytes address)

-- what it wrote; a block that was never written is zero
abbrev pub block_behind : Option (List ℕ) → List ℕ
block_behind None = replicate 256 0
block_behind (Some request) = (frame_of request).block

-- The file keeps this card: its key, each block as it was written last, and its counter, which is that behind the latest of
-- these writes: no block has a later one, and no smaller counter will do. The result register is not kept.
pub record KeepsCard (key bytes : List ℕ) (card : CardState) : Type 0 where
  pub has_key : card.key ≡ Some key
  pub blocks : length card.blocks ≡ 256
  pub block : (address : ℕ) → address < 256 → slice_index_or card.blocks address [] ≡ block_behind (last_request key bytes address)
  pub latest : (address : ℕ) → address < 256 → counter_behind (last_request key bytes address) ≤ card.counter
  pub least : (counter : ℕ) → ((address : ℕ) → address < 256 → counter_behind (last_request key bytes address) ≤ counter) → card.counter ≤ counter

-- a version is clear: it has no byte but 0
abbrev pub IsClear : (bytes : List ℕ) (address version : ℕ) → Type 0
IsClear bytes address version = (i : ℕ) → i < 1024 → get_or bytes (version_at address version + i) 0 ≡ 0

-- A block is damaged: neither version has a request, and neither is clear. A change that was cut off leaves no such block.
pub record IsDamaged (key bytes : List ℕ) (address : ℕ) : Type 0 where
  pub within : address < 256
  pub none : (version : ℕ) → version < 2 → request_in key bytes address version ≡ None
  pub used : (version : ℕ) → version < 2 → ¬ IsClear bytes address version

abbrev pub IsWhole : (key bytes : List ℕ) → Type 0
IsWhole key bytes = (address : ℕ) → ¬ IsDamaged key bytes address
