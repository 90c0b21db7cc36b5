-- The bytes of a file, and what they are after a change.
use Rattle.std.specs.Prelude.{ℕ, ◌+◌, ◌-◌, ◌<◌, List, [], ◌∷◌, ◌++◌, length, get_or, take, drop, replicate, bit_xor}

-- each element is a byte
abbrev pub AreBytes : List ℕ → Type 0
AreBytes bytes = (place : ℕ) → get_or bytes place 0 < 256

-- after these bytes were written at a place, with zero between the old end and that place
abbrev pub after_write : List ℕ → ℕ → List ℕ → List ℕ
after_write old at bytes =
    take at old ++ (replicate (at - length old) 0 ++ (bytes ++ drop (at + length bytes) old))

-- after the length was set, with zero behind the old end
abbrev pub after_resize : List ℕ → ℕ → List ℕ
after_resize old size = take size old ++ replicate (size - length old) 0

-- the mask laid over the first bytes by exclusive or; what of it lies behind the last byte changes nothing
abbrev pub overlaid : List ℕ → List ℕ → List ℕ
overlaid [] mask = []
overlaid (byte ∷ bytes) [] = byte ∷ bytes
overlaid (byte ∷ bytes) (bits ∷ mask) = bit_xor byte bits ∷ overlaid bytes mask

-- the mask laid over the bytes from a place on
abbrev pub after_mask : List ℕ → ℕ → List ℕ → List ℕ
after_mask old at mask = take at old ++ overlaid (drop at old) mask
