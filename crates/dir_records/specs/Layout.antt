-- The bytes of a directory's entry: fields one after the other, numbers big-endian.
use Rattle.std.specs.Prelude.{ℕ, List, [], ◌∷◌, ◌++◌, length, take, get_or}
use Rattle.std.specs.Int.{w16, w32, from_be_bytes, to_be_bytes}
use Rattle.byte_fields.specs.Field.{field}
use Rattle.tee_types.specs.Identifier.{padded}
use Rattle.dir_records.specs.declared.entry.DirEntry.{DirEntry}

-- the byte at an offset
abbrev pub byte : (offset : ℕ) → List ℕ → ℕ
byte offset bytes = get_or bytes offset 0

-- how long the identifier is
abbrev pub id_length : List ℕ → ℕ
id_length bytes = byte 80 bytes

-- the entry that 128 bytes hold
unfoldable pub entry_of : List ℕ → DirEntry
entry_of bytes = record {
  app = field 0 16 bytes;
  id = take (id_length bytes) (field 16 64 bytes);
  version = byte 81 bytes;
  file = from_be_bytes w16 (field 82 2 bytes);
  hash = field 84 32 bytes;
  size = from_be_bytes w32 (field 116 4 bytes);
  attributes = from_be_bytes w16 (field 120 2 bytes);
  format = byte 122 bytes;
  generation = from_be_bytes w32 (field 123 4 bytes);
}

-- the identifier has zero bytes behind it, up to 64, and then its length; the last byte of an entry is zero
unfoldable pub entry_bytes : DirEntry → List ℕ
entry_bytes e =
    e.app ++ (padded e.id ++ (length e.id ∷ e.version ∷ [] ++ (to_be_bytes w16 e.file ++ (e.hash
    ++ (to_be_bytes w32 e.size ++ (to_be_bytes w16 e.attributes ++ (e.format ∷ [] ++ (to_be_bytes w32 e.generation ++ 0 ∷ []))))))))
