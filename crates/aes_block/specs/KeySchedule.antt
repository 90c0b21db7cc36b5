-- The key expansion of FIPS 197 (5.2), for a key of 16 bytes. A word is a list of four bytes.
use Rattle.std.specs.Prelude.{ℕ, zero, suc, ◌+◌, ◌-◌, ◌*◌, ◌/◌, ◌%◌, ◌==◌, if◌then◌else◌, List, [], ◌∷◌, ◌++◌, bit_xor, slice_index, slice_index_or}
use Rattle.aes_block.specs.SBox.{s_box}
use Rattle.aes_block.specs.State.{cell, column_of, state_of}

abbrev pub word_at : List (List ℕ) → ℕ → List ℕ
word_at ws i = slice_index_or ws i []

abbrev pub add_words : List ℕ → List ℕ → List ℕ
add_words u v = column_of (λ r. bit_xor (slice_index u r) (slice_index v r))

-- RotWord
abbrev pub rot_word : List ℕ → List ℕ
rot_word w = column_of (λ r. slice_index w ((r + 1) % 4))

-- SubWord
abbrev pub sub_word : List ℕ → List ℕ
sub_word w = column_of (λ r. s_box (slice_index w r))

-- the first bytes of Rcon 1 to Rcon 10
abbrev pub round_constants : List ℕ
round_constants = 0x01 ∷ 0x02 ∷ 0x04 ∷ 0x08 ∷ 0x10 ∷ 0x20 ∷ 0x40 ∷ 0x80 ∷ 0x1b ∷ 0x36 ∷ []

-- Rcon i
abbrev pub rcon : ℕ → List ℕ
rcon i = slice_index round_constants (i - 1) ∷ 0 ∷ 0 ∷ 0 ∷ []

-- what is added to word i - 4 to make word i, where t is word i - 1
abbrev pub stirred : ℕ → List ℕ → List ℕ
stirred i t = if i % 4 == 0 then add_words (sub_word (rot_word t)) (rcon (i / 4)) else t

-- word i, from the words before it
abbrev pub next_word : List (List ℕ) → ℕ → List ℕ
next_word ws i = add_words (word_at ws (i - 4)) (stirred i (word_at ws (i - 1)))

-- words 0 to 3 + n
unfoldable pub schedule : List ℕ → ℕ → List (List ℕ)
schedule key zero =
    column_of (λ r. cell key r 0) ∷ column_of (λ r. cell key r 1)
    ∷ column_of (λ r. cell key r 2) ∷ column_of (λ r. cell key r 3) ∷ []
schedule key (suc n) = schedule key n ++ next_word (schedule key n) (n + 4) ∷ []

-- the key of round n: words 4 n to 4 n + 3, a column each
unfoldable pub round_key : List ℕ → ℕ → List ℕ
round_key key n = state_of (λ r c. slice_index (word_at (schedule key 40) (4 * n + c)) r)
