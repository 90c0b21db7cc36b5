-- Block 0 of the card, which names the directory: a block of 256 bytes in the card's replay protected memory (JESD84-B51, 6.6.22), which
-- only a frame with the right counter and the key's MAC writes.
use Rattle.std.specs.Prelude.{◌≡◌, ◌<◌, ℕ, zero, suc, ◌+◌, ◌-◌, ◌==◌, ◌||◌, Bool, List, ◌∷◌, ◌++◌, length, replicate, get_or, nat_lt, cond, Option, Some, None, Result, Ok, Err, if◌then◌else◌}
use Rattle.std.specs.List.{list_all}
use Rattle.std.specs.Int.{w16, to_be_bytes}
use Rattle.byte_fields.specs.Field.{field}
use Rattle.node_image.specs.declared.node.RootRef.{RootRef}
use Rattle.tee_types.specs.Limits.{directory_file, old_directory_file}
use Rattle.dir_records.specs.Form.{IsFormat, is_upto, last_format}
use Rattle.crash_core.specs.Refusal.{Refusal, NoStore, CardBlock}

-- the reference is one of version 0 or 1, of a file of a known format, by a hash of 32 bytes
pub record IsReference (root : RootRef) : Type 0 where
  pub version : root.version < 2
  pub format : IsFormat root.format
  pub long : length root.hash ≡ 32

-- the first format, of files that are only read and moved
abbrev pub old_format : ℕ
old_format = 1

-- the number of the directory's file, by its format
abbrev pub directory_at : (format : ℕ) → ℕ
directory_at format = if format == old_format then old_directory_file else directory_file

abbrev pub directory_bytes : (format : ℕ) → List ℕ
directory_bytes format = to_be_bytes w16 (directory_at format)

-- the block that names a directory: its format, the version of its root, the number of its file, the hash of its root
unfoldable pub root_block : RootRef → List ℕ
root_block root = (root.format ∷ root.version ∷ directory_bytes root.format) ++ (root.hash ++ replicate 220 0)

-- the byte at an offset has its form, in a block of that format
abbrev pub has_form_at : (format offset byte : ℕ) → Bool
has_form_at format offset byte =
    if offset == 0 then is_upto last_format byte
    else if offset == 1 then nat_lt byte 2
    else if nat_lt offset 4 then byte == get_or (directory_bytes format) (offset - 2) 0
    else nat_lt offset 36 || byte == 0

-- the first of so many bytes, from an offset on, that has not its form
unfoldable pub first_outside : List ℕ → (offset count : ℕ) → Option ℕ
first_outside block offset zero = None
first_outside block offset (suc count) =
    cond (has_form_at (get_or block 0 0) offset (get_or block offset 0)) (first_outside block (offset + 1) count) (Some offset)

abbrev pub root_or : List ℕ → Option ℕ → Result RootRef Refusal
root_or block None = Ok (record { hash = field 4 32 block; version = get_or block 1 0; format = get_or block 0 0 })
root_or block (Some offset) = Err (CardBlock offset)

-- what a block names
unfoldable pub root_in : List ℕ → Result RootRef Refusal
root_in block = if list_all (λ x. x == 0) block then Err NoStore else root_or block (first_outside block 0 256)
