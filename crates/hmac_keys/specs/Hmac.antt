-- HMAC with SHA-256 (RFC 2104, section 2), on lists of bytes.
use Rattle.std.specs.Prelude.{ℕ, ◌-◌, List, ◌++◌, length, map, replicate, bit_xor, nat_lt, if◌then◌else◌}
use Rattle.sha2.specs.Sha256.{sha256}

-- B: how many bytes the hash function takes at a time
abbrev pub block_length : ℕ
block_length = 64

-- K, of at most B bytes: a longer key is hashed
abbrev pub short_key : List ℕ → List ℕ
short_key key = if nat_lt block_length (length key) then sha256 key else key

-- the key with zero bytes up to B (step 1)
unfoldable pub block_key : List ℕ → List ℕ
block_key key = short_key key ++ replicate (block_length - length (short_key key)) 0

-- each byte XORed with the byte b
abbrev pub xor_each : ℕ → List ℕ → List ℕ
xor_each b bytes = map (λ x. bit_xor x b) bytes

-- H (K XOR opad, H (K XOR ipad, text)) (steps 2 to 7)
unfoldable pub hmac : List ℕ → List ℕ → List ℕ
hmac key text =
    sha256 (xor_each 0x5c (block_key key) ++ sha256 (xor_each 0x36 (block_key key) ++ text))
