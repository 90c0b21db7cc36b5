-- Ranges of bytes: which blocks they meet, and which of these a change of the range needs to know.
use Rattle.std.specs.Prelude.{ℕ, ◌+◌, ◌*◌, ◌/◌, min, max, Bool, ◌&&◌, ◌||◌, nat_lt, if◌then◌else◌}
use Rattle.page_bytes.specs.declared.range.ByteRange.{ByteRange}

-- block k, which holds bytes 4096 * k up to 4096 * (k + 1), has one from the place first on and before the place last
abbrev pub meets : (first last k : ℕ) → Bool
meets first last k = nat_lt first last && nat_lt (4096 * k) last && nat_lt first (4096 * (k + 1))

-- the block has a byte of so many before the place first, or from the place last on
abbrev pub has_outside : (size first last k : ℕ) → Bool
has_outside size first last k = nat_lt (4096 * k) (min first size) || nat_lt last (min (4096 * (k + 1)) size)

-- The block meets the changed bytes, and holds an old byte that is not among them.
abbrev pub needs : ByteRange → (k : ℕ) → Bool
needs r k = meets r.first r.last k && has_outside r.size r.first r.last k

-- a read of at most so many bytes from a place on gives fewer near the end, and none behind it
abbrev pub read_range : (size at count : ℕ) → ByteRange
read_range size at count = record { size = size; first = min at size; last = min (at + count) size }

-- a write of so many bytes at a place changes those from the place on, and those from the old end up to it
abbrev pub write_range : (size at count : ℕ) → ByteRange
write_range size at count = record { size = size; first = min at size; last = at + count }

-- another length changes what lies between the two ends
abbrev pub resize_range : (size length : ℕ) → ByteRange
resize_range size length = record { size = size; first = min length size; last = max length size }

-- the first block that has a byte of the range
abbrev pub first_block : ByteRange → ℕ
first_block r = r.first / 4096

-- the block behind the last one that has
abbrev pub end_block : ByteRange → ℕ
end_block r = if nat_lt r.first r.last then (r.last + 4095) / 4096 else r.first / 4096
