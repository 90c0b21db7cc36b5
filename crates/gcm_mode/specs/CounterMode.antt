-- The counter mode GCTR (SP 800-38D, 6.2 and 6.5), over a function e that enciphers a block.
use Rattle.std.specs.Prelude.{ℕ, zero, suc, ◌+◌, ◌/◌, ◌%◌, ◌^◌, List, ◌++◌, length, map, take, drop, bit_xor, slice_index}
use Rattle.std.specs.List.{range_with_len}
use Rattle.std.specs.Int.{w32, from_be_bytes, to_be_bytes}

-- the block with 1 added to its last 4 bytes, modulo 2 ^ 32 (6.2)
unfoldable pub inc32 : List ℕ → List ℕ
inc32 block = take 12 block ++ to_be_bytes w32 ((from_be_bytes w32 (drop 12 block) + 1) % 2 ^ 32)

-- the counter block n steps after the first
unfoldable pub counter_block : List ℕ → ℕ → List ℕ
counter_block first zero = first
counter_block first (suc n) = inc32 (counter_block first n)

-- byte k of the stream: the enciphered counter blocks, one after the other
abbrev pub stream_byte : (List ℕ → List ℕ) → List ℕ → ℕ → ℕ
stream_byte e first k = slice_index (e (counter_block first (k / 16))) (k % 16)

-- GCTR of a text: each byte XORed with the stream's, the last block's as far as the text goes (6.5)
unfoldable pub gctr : (List ℕ → List ℕ) → List ℕ → List ℕ → List ℕ
gctr e first text =
    map (λ k. bit_xor (slice_index text k) (stream_byte e first k)) (range_with_len 0 (length text))
