-- The card as a machine (JESD84-B51, 6.6.22): what it holds, and what a frame makes of it. A frame is 512 bytes, whatever
-- they are.
--
-- The standard leaves some of this free. What is marked 'ours' is this card's own choice. One choice holds for all: of an
-- answer each field that is not named is zero (ours).
use Rattle.std.specs.Prelude.{ℕ, Bool, false, ◌≡◌, ◌==◌, ◌<◌, ◌^◌, ◌+◌, not, ◌||◌, ◌&&◌, if◌then◌else◌, nat_lt, bit_or, Option, Some, None, is_none, List, [], length, replicate, slice_index_or, slice_set}
use Rattle.std.specs.Option.{ForSome}
use Rattle.std.specs.Str.{bytes_eq}
use Rattle.rpmb_frame.specs.declared.frame.Frame.{Frame}
use Rattle.rpmb_frame.specs.Layout.{frame_of, frame_bytes}
use Rattle.rpmb_frame.specs.Authentication.{carried_mac, mac_of, sealed}
use Rattle.rpmb_card.specs.declared.card.Register.{Register}
use Rattle.rpmb_card.specs.Protocol.{program_key_kind, read_counter_kind, write_block_kind, read_block_kind, read_result_kind, key_programmed_kind, counter_read_kind, block_written_kind, block_read_kind, done_result, general_failure, authentication_failure, counter_failure, address_failure, write_failure, key_not_programmed, counter_expired, last_counter}
use Rattle.rpmb_card.specs.EmptyFrame.{empty_frame}

-- a card: its key, its write counter, its 256 blocks of 256 bytes, and its result register, which says how the last
-- programming or write ended (ours: it is empty where there was none yet)
pub record CardState : Type 0 where
  pub key : Option (List ℕ)
  pub counter : ℕ
  pub blocks : List (List ℕ)
  pub register : Option Register

-- the keys and blocks have their lengths, and the numbers their widths
pub record IsCard (s : CardState) : Type 0 where
  pub key : ForSome s.key (λ key. length key ≡ 32)
  pub counter : s.counter < 2 ^ 32
  pub blocks : length s.blocks ≡ 256
  pub block : (address : ℕ) → address < 256 → length (slice_index_or s.blocks address []) ≡ 256

-- 256 blocks of 256 zero bytes
unfoldable pub zero_blocks : List (List ℕ)
zero_blocks = replicate 256 (replicate 256 0)

-- a card that was never used
abbrev pub blank : CardState
blank = record { key = None; counter = 0; blocks = zero_blocks; register = None }

-- a card that has this key and was never written
abbrev pub keyed : List ℕ → CardState
keyed key = record { key = Some key; counter = 0; blocks = zero_blocks; register = None }

-- a result as it is given: with its bit where the counter has reached its end (ours: by the counter at the time of the
-- answer, in every result, also in one that an earlier request had)
abbrev pub given_result : (counter result : ℕ) → ℕ
given_result counter result = if counter == last_counter then bit_or result counter_expired else result

-- the frame carries its MAC under the key, if there is a key
abbrev pub is_authentic : Option (List ℕ) → List ℕ → Bool
is_authentic None bytes = false
is_authentic (Some key) bytes = bytes_eq (carried_mac bytes) (mac_of key bytes)

-- how a write ends: by the first test that fails (ours: the order of the tests, and the general failure of a write of more
-- or fewer blocks than one)
abbrev pub write_result : CardState → List ℕ → ℕ
write_result s bytes =
    let f = frame_of bytes in
    if is_none s.key then key_not_programmed
    else if s.counter == last_counter then write_failure
    else if not (f.count == 1) then general_failure
    else if nat_lt 255 f.address then address_failure
    else if not (is_authentic s.key bytes) then authentication_failure
    else if not (f.counter == s.counter) then counter_failure
    else done_result

-- the frame is a write that is done
abbrev pub does_write : CardState → List ℕ → Bool
does_write s bytes = (frame_of bytes).kind == write_block_kind && write_result s bytes == done_result

-- the card after a write with this result: only one that is done changes a block, and the counter
abbrev pub written : CardState → Frame → ℕ → CardState
written s f result = record {
  key = s.key;
  counter = if result == done_result then s.counter + 1 else s.counter;
  blocks = if result == done_result then slice_set s.blocks f.address f.block else s.blocks;
  register = Some (record { kind = block_written_kind; result = result; address = f.address });
}

-- the card after a key was sent: the first one becomes its key (ours: a later one is a general failure)
abbrev pub programmed : CardState → List ℕ → CardState
programmed s key = record s {
  key = if is_none s.key then Some key else s.key;
  register = Some (record {
    kind = key_programmed_kind;
    result = if is_none s.key then done_result else general_failure;
    address = 0;
  });
}

-- the card after the frame
abbrev pub card_after : CardState → List ℕ → CardState
card_after s bytes =
    let f = frame_of bytes in
    if f.kind == program_key_kind then programmed s f.key_or_mac
    else if f.kind == write_block_kind then written s f (write_result s bytes)
    else s

abbrev pub counter_answer : CardState → Frame → Frame
counter_answer s f = record empty_frame {
  nonce = f.nonce;
  counter = s.counter;
  result = given_result s.counter (if is_none s.key then key_not_programmed else done_result);
  kind = counter_read_kind;
}

-- how a read of a block ends (ours: the order of the tests)
abbrev pub read_result : CardState → Frame → ℕ
read_result s f =
    if is_none s.key then key_not_programmed
    else if nat_lt 255 f.address then address_failure
    else done_result

abbrev pub block_answer : CardState → Frame → Frame
block_answer s f = record empty_frame {
  block = if read_result s f == done_result then slice_index_or s.blocks f.address [] else empty_frame.block;
  nonce = f.nonce;
  address = f.address;
  count = 1;
  result = given_result s.counter (read_result s f);
  kind = block_read_kind;
}

-- what the register says; with the counter after a write (ours: an empty register answers with a general failure, and no
-- kind)
abbrev pub register_answer : ℕ → Option Register → Frame
register_answer counter None = record empty_frame { result = given_result counter general_failure }
register_answer counter (Some register) = record empty_frame {
  counter = if register.kind == block_written_kind then counter else 0;
  address = register.address;
  result = given_result counter register.result;
  kind = register.kind;
}

-- the answer before its MAC (ours: a frame that programs or writes is answered with zeros, and one of another kind with a
-- general failure and no kind)
abbrev pub answer_fields : CardState → Frame → Frame
answer_fields s f =
    if f.kind == program_key_kind then empty_frame
    else if f.kind == read_counter_kind then counter_answer s f
    else if f.kind == write_block_kind then empty_frame
    else if f.kind == read_block_kind then block_answer s f
    else if f.kind == read_result_kind then register_answer s.counter s.register
    else record empty_frame { result = given_result s.counter general_failure }

abbrev pub carries_mac : ℕ → Bool
carries_mac kind = kind == counter_read_kind || kind == block_written_kind || kind == block_read_kind

-- an answer's bytes, with the MAC under the card's key where its kind has one
abbrev pub answer_bytes : Option (List ℕ) → Frame → List ℕ
answer_bytes None f = frame_bytes f
answer_bytes (Some key) f = if carries_mac f.kind then sealed key (frame_bytes f) else frame_bytes f

-- the card's answer to the frame
abbrev pub card_answer : CardState → List ℕ → List ℕ
card_answer s bytes = answer_bytes s.key (answer_fields s (frame_of bytes))
