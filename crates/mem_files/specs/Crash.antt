-- Which image a simulated crash leaves.
use Rattle.std.specs.Prelude.{ℕ, ◌+◌, ◌-◌, ◌*◌, ◌/◌, ◌%◌, ◌^◌, List, [], ◌∷◌, Bool, ◌==◌, ◌&&◌, if◌then◌else◌}
use Rattle.disk_model.specs.declared.span.Span.{Span}
use Rattle.disk_model.specs.Images.{sector}
use Rattle.disk_model.specs.Sectors.{any_spoils}

-- a mixture of two lists from a place on: at each place that both have, the byte of the newer one where it is chosen there;
-- and the end of the longer one, or of the shorter
abbrev pub mixture : (ℕ → Bool) → Bool → ℕ → List ℕ → List ℕ → List ℕ
mixture is_newer is_long place [] newer = (if is_long then newer else [])
mixture is_newer is_long place (byte ∷ older) [] = (if is_long then byte ∷ older else [])
mixture is_newer is_long place (a ∷ older) (b ∷ newer) =
    (if is_newer place then b else a) ∷ mixture is_newer is_long (place + 1) older newer

-- the value in 64 bits
abbrev pub wrapped : ℕ → ℕ
wrapped n = n % 2 ^ 64

-- 2^64 divided by the golden ratio, whose multiples lie evenly
abbrev pub STRIDE : ℕ
STRIDE = 0x9e37_79b9_7f4a_7c15

-- a number that stands for a seed and a file's number
abbrev pub crash_key : ℕ → ℕ → ℕ
crash_key seed file = wrapped (wrapped (wrapped (seed * STRIDE) + file) * STRIDE)

-- a coin that is tossed for each unit: bit 32 of the square of the unit's multiple
abbrev pub coin : ℕ → ℕ → Bool
coin key unit = let word = wrapped (wrapped (key + unit) * STRIDE) in wrapped (word * word) / 2 ^ 32 % 2 == 1

-- the bytes of a unit are chosen together: 1, 16, 256 or 4096 of them
abbrev pub unit_length : ℕ → ℕ
unit_length seed = 16 ^ (seed % 4)

-- a byte that nobody wrote
abbrev pub noise : ℕ → ℕ → ℕ
noise key place = wrapped (key + place) % 256

-- the bytes from a place on, with such bytes in the places that are hit
abbrev pub noise_over : (ℕ → Bool) → (key : ℕ) → ℕ → List ℕ → List ℕ
noise_over is_hit key place [] = []
noise_over is_hit key place (byte ∷ bytes) = (if is_hit place then noise key place else byte) ∷ noise_over is_hit key (place + 1) bytes

-- the place is hit where its sector's coin falls so and a span meets the sector
abbrev pub is_hit : List Span → (key place : ℕ) → Bool
is_hit spans key place = coin key (2 ^ 32 + sector place) && any_spoils spans place

-- each byte of one of the two lists, and the end of one
abbrev pub crash_mixture : List ℕ → List ℕ → (key seed : ℕ) → List ℕ
crash_mixture settled reads key seed = mixture (λ place. coin key (place / unit_length seed)) (coin key (2 ^ 64 - 1)) 0 settled reads

-- The image that a crash leaves: for zero the settled bytes, for one those that the file reads as, and else a mixture of the
-- two. An odd seed spoils some of the sectors that meet a span.
abbrev pub crash_of : List ℕ → List ℕ → List Span → ℕ → ℕ → List ℕ
crash_of settled reads spans seed file =
    let key = crash_key seed file in
    (if seed == 0 then settled else (if seed == 1 then reads else
    (if seed % 2 == 1 then noise_over (is_hit spans key) key 0 (crash_mixture settled reads key seed) else crash_mixture settled reads key seed)))
