-- What holds of the cipher and its inverse.
use Rattle.std.specs.Prelude.{◌≡◌, ℕ, List, length}
use Rattle.aes_block.specs.State.{IsBytes}
use Rattle.aes_block.specs.Cipher.{cipher}
use Rattle.aes_block.specs.InverseCipher.{inv_cipher}

-- deciphering undoes enciphering, for every key and every block of 16 bytes
abbrev pub DecipheringUndoes : Type 0
DecipheringUndoes =
    (key block : List ℕ) → IsBytes key → IsBytes block → length block ≡ 16
    → inv_cipher key (cipher key block) ≡ block
