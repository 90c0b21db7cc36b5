-- The form of the blocks of a card that hold objects: the map block, which says which blocks are live entries, and a live entry, which
-- names an object and its data blocks.
use Rattle.std.specs.Prelude.{ℕ, zero, suc, ◌+◌, ◌-◌, ◌/◌, ◌%◌, ◌^◌, ◌==◌, ◌&&◌, ◌||◌, nat_le, nat_lt, cond, Bool, List, length, map, get_or, Option, Some, None}
use Rattle.std.specs.Int.{w16, from_be_bytes}
use Rattle.std.specs.List.{range_with_len}
use Rattle.byte_fields.specs.Field.{field}
use Rattle.store_model.specs.declared.name.ObjectName.{ObjectName}

-- the greatest object, and how many data blocks hold so many bytes
abbrev pub most_card_bytes : ℕ
most_card_bytes = 16384

abbrev pub data_blocks : ℕ → ℕ
data_blocks size = (size + 255) / 256

-- the byte at an offset of a block
abbrev pub byte_at : List ℕ → (offset : ℕ) → ℕ
byte_at block offset = get_or block offset 0

-- block b, of 256, is a live entry: bit b % 8 of byte b / 8 of the map block
abbrev pub is_live : (map_block : List ℕ) → (b : ℕ) → Bool
is_live map_block b = nat_lt b 256 && ((byte_at map_block (b / 8) / 2 ^ (b % 8)) % 2 == 1)

-- the fields of an entry
abbrev pub id_length : List ℕ → ℕ
id_length block = byte_at block 80

abbrev pub name_in : List ℕ → ObjectName
name_in block = record { app = field 0 16 block; id = field 16 (id_length block) block }

abbrev pub size_in : List ℕ → ℕ
size_in block = from_be_bytes w16 (field 82 2 block)

abbrev pub number_at : List ℕ → (i : ℕ) → ℕ
number_at block i = byte_at block (84 + i)

-- the numbers of its data blocks
abbrev pub numbers_in : List ℕ → List ℕ
numbers_in block = map (number_at block) (range_with_len 0 (data_blocks (size_in block)))

-- the first of so many offsets from one on that a test refuses
unfoldable pub first_wrong : (test : ℕ → Bool) → (offset count : ℕ) → Option ℕ
first_wrong test offset zero = None
first_wrong test offset (suc count) = cond (test offset) (first_wrong test (offset + 1) count) (Some offset)

-- the first of two faults
abbrev pub or_next : Option ℕ → Option ℕ → Option ℕ
or_next (Some offset) next = Some offset
or_next None next = next

-- the map block: bits 0 and 1 are zero, and all bytes from 32 on
abbrev pub is_map_byte : List ℕ → (at : ℕ) → Bool
is_map_byte block at = cond (at == 0) (byte_at block 0 % 4 == 0) (nat_lt at 32 || (byte_at block at == 0))

abbrev pub map_fault : List ℕ → Option ℕ
map_fault block = first_wrong (is_map_byte block) 0 256

-- What an entry's own bytes have to be, before its numbers. The identifier is zero past its length.
abbrev pub is_id_byte : List ℕ → (at : ℕ) → Bool
is_id_byte block at = nat_lt at (16 + id_length block) || (byte_at block at == 0)

abbrev pub id_fault : List ℕ → Option ℕ
id_fault block = first_wrong (is_id_byte block) 16 64

-- Its length is 1 to 64; a zero; the size.
abbrev pub is_field : List ℕ → (at : ℕ) → Bool
is_field block at =
    cond (at == 80) (nat_le 1 (id_length block) && nat_le (id_length block) 64)
    (cond (at == 81) (byte_at block 81 == 0) (nat_le (size_in block) most_card_bytes))

abbrev pub field_fault : List ℕ → Option ℕ
field_fault block = first_wrong (is_field block) 80 3

abbrev pub front_fault : List ℕ → Option ℕ
front_fault block = or_next (id_fault block) (field_fault block)

-- and behind them: zero
abbrev pub rest_fault : List ℕ → Option ℕ
rest_fault block = first_wrong (λ at. byte_at block at == 0) (84 + data_blocks (size_in block)) (172 - data_blocks (size_in block))
