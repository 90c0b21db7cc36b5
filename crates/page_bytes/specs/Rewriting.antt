-- What a change of bytes puts in place of each.
use Rattle.std.specs.Prelude.{◌≡◌, ℕ, ◌+◌, ◌-◌, ◌*◌, ◌<◌, ◌≤◌, List, get_or, ◌&&◌, min, nat_le, nat_lt, if◌then◌else◌}
use Rattle.page_bytes.specs.declared.range.ByteRange.{ByteRange}

-- byte p of bytes that lie from a place on, with zero on both sides
abbrev pub laid_byte : (at : ℕ) → (bytes : List ℕ) → (p : ℕ) → ℕ
laid_byte at bytes p = if nat_le at p then get_or bytes (p - at) 0 else 0

-- Byte p after the change, where it was old: in the range the bytes that are laid from a place on, outside of it what was
-- there, and zero from the old end on.
abbrev pub changed_byte : ByteRange → (at : ℕ) → (bytes : List ℕ) → (p old : ℕ) → ℕ
changed_byte r at bytes p old =
    if nat_le r.first p && nat_lt p r.last then laid_byte at bytes p
    else if nat_lt p r.size then old
    else 0

-- the page of block k after the change, byte by byte
abbrev pub IsRewritten : ByteRange → (at : ℕ) → (bytes : List ℕ) → (k : ℕ) → (old new : List ℕ) → Type 0
IsRewritten r at bytes k old new =
    (i : ℕ) → i < 4096 → get_or new i 0 ≡ changed_byte r at bytes (4096 * k + i) (get_or old i 0)

-- the range goes forward from within the old bytes, and has all that is laid
pub record Fits (r : ByteRange) (at count : ℕ) : Type 0 where
  pub forward : r.first ≤ r.last
  pub within : r.first ≤ r.size
  pub from : r.first ≤ at
  pub upto : at + count ≤ r.last

-- byte i of what a range is read into, after the page of block k gave those that it has
abbrev pub given_byte : ByteRange → (k : ℕ) → (page : List ℕ) → (i old : ℕ) → ℕ
given_byte r k page i old =
    if nat_le (4096 * k) (r.first + i) && nat_lt (r.first + i) (min r.last (4096 * (k + 1))) then get_or page (r.first + i - 4096 * k) 0 else old
