-- How a frame is authenticated (JESD84-B51, 6.6.22): by the HMAC with SHA-256 of bytes 228 to 511,
-- the block, the nonce and all that follows. The MAC is bytes 196 to 227.
use Rattle.std.specs.Prelude.{◌≡◌, ℕ, List, ◌++◌, take, drop}
use Rattle.hmac_keys.specs.Hmac.{hmac}
use Rattle.byte_fields.specs.Field.{field}

-- the MAC of a frame under a key
unfoldable pub mac_of : (key bytes : List ℕ) → List ℕ
mac_of key bytes = hmac key (field 228 284 bytes)

-- the MAC that a frame carries
abbrev pub carried_mac : List ℕ → List ℕ
carried_mac bytes = field 196 32 bytes

-- the frame carries its own MAC
abbrev pub IsAuthentic : (key bytes : List ℕ) → Type 0
IsAuthentic key bytes = carried_mac bytes ≡ mac_of key bytes

-- the frame with its MAC in place, all else as it was
unfoldable pub sealed : (key bytes : List ℕ) → List ℕ
sealed key bytes = take 196 bytes ++ (mac_of key bytes ++ drop 228 bytes)
