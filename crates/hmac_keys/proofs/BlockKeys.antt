-- The key of one block, by the length of the key.
use Rattle.std.proofs.Common.{◌≡◌, ℕ, ◌-◌, ◌<◌, ◌≤◌, List, ◌++◌, length, replicate, cond, ap}
use Rattle.std.proofs.lemmas.Bool.{lt-ltb, le-ltb}
use Rattle.sha2.specs.Sha256.{sha256}
use Rattle.hmac_keys.specs.Hmac.{block_key}

-- a key filled to a block
filled : List ℕ → List ℕ
filled part = part ++ replicate (64 - length part) 0

-- a key of more than 64 bytes is hashed
pub block_key_long : (key : List ℕ) → 64 < length key → block_key key ≡ sha256 key ++ replicate (64 - length (sha256 key)) 0
unfolding block_key filled
block_key_long key long = ap (λ b. filled (cond b (sha256 key) key)) (lt-ltb 64 (length key) long)

-- a key of at most 64 bytes is taken as it is
pub block_key_short : (key : List ℕ) → length key ≤ 64 → block_key key ≡ key ++ replicate (64 - length key) 0
unfolding block_key filled
block_key_short key short = ap (λ b. filled (cond b (sha256 key) key)) (le-ltb 64 (length key) short)
