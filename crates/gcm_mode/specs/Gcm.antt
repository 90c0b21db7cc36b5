-- Galois/Counter Mode with tags of 16 bytes (SP 800-38D, 7.1), over a function e that enciphers a
-- block under the key.
use Rattle.std.specs.Prelude.{ℕ, ◌*◌, ◌==◌, if◌then◌else◌, List, [], ◌∷◌, ◌++◌, length, replicate}
use Rattle.std.specs.Int.{w64, w128, from_be_bytes, to_be_bytes}
use Rattle.gcm_mode.specs.ByteBlocks.{padded, ghash_bytes}
use Rattle.gcm_mode.specs.CounterMode.{inc32, gctr}

-- H, the hash subkey: a block of zero bytes, enciphered (step 1)
unfoldable pub hash_subkey : (List ℕ → List ℕ) → ℕ
hash_subkey e = from_be_bytes w128 (e (replicate 16 0))

-- J 0, the pre-counter block: an initialization vector of 12 bytes and the number 1 in 4 bytes; or
-- GHASH of any other, filled to whole blocks, then 8 zero bytes and its length in bits (step 2)
unfoldable pub pre_counter_block : (List ℕ → List ℕ) → List ℕ → List ℕ
pre_counter_block e iv =
    if length iv == 12
    then iv ++ 0 ∷ 0 ∷ 0 ∷ 1 ∷ []
    else ghash_bytes (hash_subkey e) (padded iv ++ (replicate 8 0 ++ to_be_bytes w64 (length iv * 8)))

-- the ciphertext of a plaintext (step 3), and the plaintext of a ciphertext
unfoldable pub gcm_text : (List ℕ → List ℕ) → List ℕ → List ℕ → List ℕ
gcm_text e iv text = gctr e (inc32 (pre_counter_block e iv)) text

-- the tag of additional data and a ciphertext (steps 4 to 6)
unfoldable pub gcm_tag : (List ℕ → List ℕ) → List ℕ → List ℕ → List ℕ → List ℕ
gcm_tag e iv aad ciphertext =
    gctr e (pre_counter_block e iv) (ghash_bytes (hash_subkey e)
    (padded aad ++ (padded ciphertext ++ (to_be_bytes w64 (length aad * 8) ++ to_be_bytes w64 (length ciphertext * 8)))))
