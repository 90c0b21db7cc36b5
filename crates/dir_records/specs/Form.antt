-- Which 128 bytes are free, an entry, or neither.
use Rattle.std.specs.Prelude.{ℕ, ◌<◌, ◌≤◌, Bool, ◌&&◌, ◌==◌, not, nat_le, nat_lt, List, [], ◌∷◌, drop, find, Option, None, Some, Result, Ok, Err, if◌then◌else◌}
use Rattle.std.specs.List.{list_all}
use Rattle.std.specs.Int.{w16, w32, from_be_bytes}
use Rattle.std.specs.Option.{option_map}
use Rattle.byte_fields.specs.Field.{field}
use Rattle.tee_types.specs.Limits.{IsObjectFile, last_file, most_attribute_bytes, most_data_bytes, most_identifier_bytes}
use Rattle.dir_records.specs.declared.entry.DirEntry.{DirEntry}
use Rattle.dir_records.specs.declared.entry.BadRecord.{BadRecord}
use Rattle.dir_records.specs.Layout.{byte, id_length, entry_of}

-- all bytes are zero
abbrev pub is_free : List ℕ → Bool
is_free bytes = list_all (λ x. x == 0) bytes

-- a number from 1 on
abbrev pub is_upto : (most n : ℕ) → Bool
is_upto most n = nat_le 1 n && nat_le n most

-- the last format of a file of an object; the first is 1
abbrev pub last_format : ℕ
last_format = 2

abbrev pub IsFormat : ℕ → Type 0
IsFormat format = (1 ≤ format) × (format ≤ last_format)

-- each field that has a form, in the order of the tests: whether it is outside it, and its offset
abbrev pub tests : List ℕ → List (Bool × ℕ)
tests bytes =
    (not (is_upto most_identifier_bytes (id_length bytes)), 80)
    ∷ (not (is_free (drop (id_length bytes) (field 16 64 bytes))), 16)
    ∷ (nat_lt 1 (byte 81 bytes), 81)
    ∷ (not (is_upto last_file (from_be_bytes w16 (field 82 2 bytes))), 82)
    ∷ (nat_lt most_data_bytes (from_be_bytes w32 (field 116 4 bytes)), 116)
    ∷ (nat_lt most_attribute_bytes (from_be_bytes w16 (field 120 2 bytes)), 120)
    ∷ (not (is_upto last_format (byte 122 bytes)), 122)
    ∷ (not (byte 127 bytes == 0), 127)
    ∷ []

-- the offset of the first field outside its form
unfoldable pub first_fault : List ℕ → Option ℕ
first_fault bytes = option_map (λ t. t.1) (find (λ t. t.0) (tests bytes))

-- an entry, or what refuses one
abbrev pub entry_or : Option ℕ → DirEntry → Result (Option DirEntry) BadRecord
entry_or None entry = Ok (Some entry)
entry_or (Some offset) entry = Err (record { offset = offset })

-- what 128 bytes hold
abbrev pub record_of : List ℕ → Result (Option DirEntry) BadRecord
record_of bytes = if is_free bytes then Ok None else entry_or (first_fault bytes) (entry_of bytes)

-- each number of an entry has its form
pub record HasForm (e : DirEntry) : Type 0 where
  pub version : e.version < 2
  pub file : IsObjectFile e.file
  pub size : e.size ≤ most_data_bytes
  pub attributes : e.attributes ≤ most_attribute_bytes
  pub format : IsFormat e.format
