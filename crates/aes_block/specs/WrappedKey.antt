-- A file's key under a storage key: one block of AES-128 under the first half of the 32 bytes.
use Rattle.std.specs.Prelude.{ℕ, List, take}
use Rattle.aes_block.specs.Cipher.{cipher}
use Rattle.aes_block.specs.InverseCipher.{inv_cipher}

-- the key of a block cipher that a storage key of 32 bytes gives
abbrev pub wrapping_key : List ℕ → List ℕ
wrapping_key tsk = take 16 tsk

-- the file key, enciphered
abbrev pub wrapped_of : List ℕ → List ℕ → List ℕ
wrapped_of tsk fek = cipher (wrapping_key tsk) fek

-- the block, deciphered
abbrev pub unwrapped_of : List ℕ → List ℕ → List ℕ
unwrapped_of tsk wrapped = inv_cipher (wrapping_key tsk) wrapped
