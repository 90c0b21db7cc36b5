-- Calls on the data of an open object.
use Rattle.std.specs.Prelude.{ℕ, Bool, not, ◌==◌, ◌&&◌, ◌||◌, if◌then◌else◌, nat_lt, ◌+◌, ◌-◌, min, max, List, [], ◌∷◌, ◌++◌, length, take, drop, replicate, filter, ℤ, pos, negsuc, ◌+ℤ◌, int_lt}
use Rattle.std.specs.List.{list_any}
use Rattle.tee_types.specs.Limits.{most_data_bytes}
use Rattle.tee_types.specs.Rights.{read_bit, write_bit}
use Rattle.tee_types.specs.declared.call.Whence.{Whence}
use Rattle.tee_types.specs.declared.call.Whence.TheVariants.{Set, Cur, End}
use Rattle.tee_types.specs.declared.reply.Reply.{Reply}
use Rattle.tee_types.specs.declared.reply.Reply.TheVariants.{Done, Content, Info, Refused, Corrupt}
use Rattle.tee_types.specs.declared.reply.Code.TheVariants.{Overflow, NoSpace}
use Rattle.store_model.specs.declared.session.Handle.{Handle}
use Rattle.store_model.specs.Object.{Contents, Sound, block_start, block_end, object_at, size_at, changed_object}
use Rattle.store_model.specs.Machine.{MachineState, Outcome, session_at, with_session, handle_at, with_handle, unless_refused, by_handle, by_right, of_sound}

-- The greatest position of a handle (TEE_DATA_MAX_POSITION).
abbrev pub greatest_position : ℕ
greatest_position = 4294967295

-- places in an object's data: from `start` on and before `end`
pub record Range : Type 0 where
  pub start : ℕ
  pub end : ℕ

-- data block k has a byte from place first on and before place last
abbrev pub meets_block : ℕ → ℕ → ℕ → Bool
meets_block first last k = nat_lt first last && nat_lt (block_start k) last && nat_lt first (block_end k)

-- data block k has a byte of the range
abbrev pub meets : Range → ℕ → Bool
meets range k = meets_block range.start range.end k

-- Block k, of an object of that size, meets the places from first on and before last, and has a byte of the object elsewhere too:
-- who changes these places has to know the rest of the block.
abbrev pub needs_block : ℕ → ℕ → ℕ → ℕ → Bool
needs_block size first last k = meets_block first last k && (nat_lt (block_start k) (min first size) || nat_lt last (min (block_end k) size))

-- why a change of the range is refused: a bad block would keep some of the object's bytes
abbrev pub spoils : Contents → Range → Bool
spoils c range = list_any (needs_block (length c.bytes) range.start range.end) c.bad

-- the bad blocks that a change of the range leaves bad
abbrev pub bad_left : Contents → Range → List ℕ
bad_left c range = filter (λ k. not (meets range k)) c.bad

-- the state with the handle at that position
abbrev pub with_position : MachineState → ℕ → ℕ → Handle → ℕ → MachineState
with_position s i number handle position = with_session s i (with_handle (session_at s i) number (record handle { position = position }))

-- the state with these contents as the handle's object
abbrev pub with_contents : MachineState → Handle → Contents → MachineState
with_contents s handle contents = record s { objects = changed_object s.objects handle.name (Sound contents) }

-- at most size bytes from the position on
abbrev pub bytes_at : List ℕ → ℕ → ℕ → List ℕ
bytes_at bytes position size = take size (drop position bytes)

-- a read of a sound object, at the handle's position
abbrev pub read_from : MachineState → ℕ → ℕ → ℕ → Handle → Contents → Outcome
read_from s i number size handle contents =
    let given = bytes_at contents.bytes handle.position size in
    let last = handle.position + length given in
    unless_refused ((list_any (meets (record { start = handle.position; end = last })) contents.bad, Corrupt) ∷ []) s
    (record { reply = Content given; next = with_position s i number handle last })

-- TEE_ReadObjectData: the bytes from the position on, at most so many, fewer near the end. The position advances by what is given.
unfoldable pub read_of : MachineState → ℕ → ℕ → ℕ → Outcome
read_of s i number size = by_right s read_bit (handle_at (session_at s i) number)
    (λ handle. of_sound s (object_at s.objects handle.name) (read_from s i number size handle))

-- these bytes at that position, and zero bytes between the old end and it
abbrev pub written : List ℕ → ℕ → List ℕ → List ℕ
written old position bytes =
    take position old ++ replicate (position - length old) 0 ++ bytes ++ drop (position + length bytes) old

-- the range that a write of so many bytes changes: the gap behind the old end too
abbrev pub range_written : Contents → ℕ → ℕ → Range
range_written c position count = record { start = min position (length c.bytes); end = position + count }

-- a sound object after a write: the bad blocks that it meets are good
abbrev pub written_contents : Contents → ℕ → List ℕ → Contents
written_contents c position bytes = record c {
  bytes = written c.bytes position bytes;
  bad = bad_left c (range_written c position (length bytes));
}

-- why a write of some bytes is refused
abbrev pub write_refusals : Contents → ℕ → ℕ → List (Bool × Reply)
write_refusals c position count =
    (nat_lt greatest_position (position + count), Refused Overflow)
    ∷ (nat_lt most_data_bytes (position + count), Refused NoSpace)
    ∷ (spoils c (range_written c position count), Corrupt)
    ∷ []

-- a write of some bytes to a sound object, at the handle's position
abbrev pub write_from : MachineState → ℕ → ℕ → List ℕ → Handle → Contents → Outcome
write_from s i number bytes handle c =
    unless_refused (write_refusals c handle.position (length bytes)) s
    (record {
      reply = Done;
      next = with_position (with_contents s handle (written_contents c handle.position bytes)) i number handle (handle.position + length bytes);
    })

-- TEE_WriteObjectData: all or nothing. A write of no bytes is done at once.
unfoldable pub write_of : MachineState → ℕ → ℕ → List ℕ → Outcome
write_of s i number bytes = by_right s write_bit (handle_at (session_at s i) number)
    (λ handle.
    if length bytes == 0 then record { reply = Done; next = s }
    else of_sound s (object_at s.objects handle.name) (write_from s i number bytes handle))

-- the first bytes, and zero bytes behind the old end
abbrev pub resized : List ℕ → ℕ → List ℕ
resized old size = take size old ++ replicate (size - length old) 0

-- the range between the old end and the new one
abbrev pub range_resized : Contents → ℕ → Range
range_resized c size = record { start = min size (length c.bytes); end = max size (length c.bytes) }

-- a sound object after its size was set: the bad blocks that were cut away are gone
abbrev pub resized_contents : Contents → ℕ → Contents
resized_contents c size = record c {
  bytes = resized c.bytes size;
  bad = bad_left c (range_resized c size);
}

-- why a size is refused
abbrev pub truncate_refusals : Contents → ℕ → List (Bool × Reply)
truncate_refusals c size =
    (nat_lt most_data_bytes size, Refused NoSpace)
    ∷ (spoils c (range_resized c size), Corrupt)
    ∷ []

abbrev pub truncate_from : MachineState → ℕ → Handle → Contents → Outcome
truncate_from s size handle c =
    unless_refused (truncate_refusals c size) s
    (record { reply = Done; next = with_contents s handle (resized_contents c size) })

-- TEE_TruncateObjectData: the position stays. The size that the object has is set at once.
unfoldable pub truncate_of : MachineState → ℕ → ℕ → ℕ → Outcome
truncate_of s i number size = by_right s write_bit (handle_at (session_at s i) number)
    (λ handle. of_sound s (object_at s.objects handle.name) (truncate_from s size handle))

-- the place from which a seek counts
abbrev pub seek_base : Whence → ℕ → ℕ → ℕ
seek_base Set position size = 0
seek_base Cur position size = position
seek_base End position size = size

-- below zero is zero
abbrev pub at_least_zero : ℤ → ℕ
at_least_zero (pos n) = n
at_least_zero (negsuc n) = 0

-- TEE_SeekObjectData
unfoldable pub seek_of : MachineState → ℕ → ℕ → ℤ → Whence → Outcome
seek_of s i number offset whence = by_handle s (handle_at (session_at s i) number)
    (λ handle.
    let target = pos (seek_base whence handle.position (size_at s.objects handle.name)) +ℤ offset in
    unless_refused ((int_lt (pos greatest_position) target, Refused Overflow) ∷ []) s
    (record { reply = Done; next = with_position s i number handle (at_least_zero target) }))

-- TEE_GetObjectInfo1
unfoldable pub info_of : MachineState → ℕ → ℕ → Outcome
info_of s i number = by_handle s (handle_at (session_at s i) number)
    (λ handle. of_sound s (object_at s.objects handle.name)
    (λ c. record { reply = Info (length c.bytes) handle.position handle.flags c.attributes; next = s }))
