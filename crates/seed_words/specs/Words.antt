-- Bytes that are drawn from a seed: words of the key stream of ChaCha20 (RFC 8439, 2.3 and 2.4), under the seed as key.
-- The last four words of a block's state are a counter of 64 bits and the number of the stream as a nonce of 64 bits; the
-- RFC has 32 bits and 96 there. The words of a stream are numbered through, sixteen to a block.
use Rattle.std.specs.Prelude.{ℕ, ◌+◌, ◌/◌, ◌%◌, ◌^◌, List, ◌++◌}
use Rattle.std.specs.Int.{w32, to_le_bytes}
use Rattle.rand_chacha.specs.Block.{initial_state}
use Rattle.rand_chacha.specs.ChaCha.{key_of, word_at}

-- the 32 bytes of the seed, the number of the stream, and the place of the next word
pub record SeedState : Type 0 where
  pub seed : List ℕ
  pub stream : ℕ
  pub place : ℕ

-- word k from the next one on, after the ten double rounds of ChaCha20
abbrev pub word_of : SeedState → ℕ → ℕ
word_of s k = word_at 10 (key_of s.seed) s.stream (s.place + k)

-- the 16 bytes of a draw: the next four words, each with its least byte first
abbrev pub drawn_of : SeedState → List ℕ
drawn_of s =
    to_le_bytes w32 (word_of s 0) ++ to_le_bytes w32 (word_of s 1)
    ++ to_le_bytes w32 (word_of s 2) ++ to_le_bytes w32 (word_of s 3)

-- the state after a draw; a stream begins anew after 2 ^ 68 words
abbrev pub after_draw : SeedState → SeedState
after_draw s = record s { place = (s.place + 4) % 2 ^ 68 }

-- what a word is made of: the state with which its block begins, and the word's place in the block
abbrev pub source_of : List ℕ → ℕ → ℕ → List ℕ × ℕ
source_of seed stream place = (initial_state (key_of seed) (place / 16) stream, place % 16)
