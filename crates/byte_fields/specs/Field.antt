-- A field among bytes: so many bytes from an offset on.
use Rattle.std.specs.Prelude.{ℕ, ◌+◌, List, ◌++◌, length, take, drop}

-- the bytes of a field
abbrev pub field : (offset width : ℕ) → List ℕ → List ℕ
field offset width bytes = take width (drop offset bytes)

-- the bytes with a field in place, all else as it was
abbrev pub with_field : (offset : ℕ) → (part bytes : List ℕ) → List ℕ
with_field offset part bytes = take offset bytes ++ (part ++ drop (offset + length part) bytes)
