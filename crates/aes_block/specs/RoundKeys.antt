-- An expanded key: the keys of rounds 0 to 10 in planes, of which the first is the key itself.
use Rattle.std.specs.Prelude.{◌≡◌, ℕ, ◌<◌, List, [], slice_index_or}
use Rattle.aes_block.specs.declared.round_key.RoundKey.{RoundKey}
use Rattle.aes_block.specs.KeySchedule.{round_key}
use Rattle.aes_block.specs.Planes.{ArePlanes, block_in}

-- the key of round n
abbrev pub key_at : List RoundKey → ℕ → RoundKey
key_at keys n = slice_index_or keys n (record { planes = [] })

-- the key that was expanded
abbrev pub first_key : List RoundKey → List ℕ
first_key keys = block_in ((key_at keys 0).planes) 0

-- k has the key of round n of an expanded key, in each of eight blocks
pub record IsRoundKey (key : List ℕ) (n : ℕ) (k : RoundKey) : Type 0 where
  pub wide : ArePlanes k.planes
  pub packed : (t : ℕ) → t < 8 → block_in k.planes t ≡ round_key key n

-- each of the eleven keys is that round's
pub record AreRoundKeys (keys : List RoundKey) : Type 0 where
  pub each : (n : ℕ) → n < 11 → IsRoundKey (first_key keys) n (key_at keys n)
