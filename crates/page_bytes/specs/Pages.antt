-- Bytes that lie in blocks of 4,096, each block with its page or bad.
use Rattle.std.specs.Prelude.{ℕ, ◌/◌, ◌%◌, List, get_or, map, Option, Some, None}
use Rattle.std.specs.List.{range_with_len}

-- block k of a list of blocks; one that it lacks is bad
abbrev pub page_at : List (Option (List ℕ)) → (k : ℕ) → Option (List ℕ)
page_at pages k = get_or pages k None

-- byte i of a block; those of a bad block stand as zero
abbrev pub byte_in : Option (List ℕ) → (i : ℕ) → ℕ
byte_in (Some page) i = get_or page i 0
byte_in None i = 0

-- byte p of blocks with these pages: byte p % 4096 of block p / 4096
abbrev pub byte_at : (pages : ℕ → Option (List ℕ)) → (p : ℕ) → ℕ
byte_at pages p = byte_in (pages (p / 4096)) (p % 4096)

-- so many bytes from a place on
abbrev pub bytes_from : (pages : ℕ → Option (List ℕ)) → (at count : ℕ) → List ℕ
bytes_from pages at count = map (byte_at pages) (range_with_len at count)
