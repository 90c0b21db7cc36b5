-- Words for what the code's steps compute, where the standard has none.
use Rattle.std.specs.Prelude.{ℕ, List, [], ◌∷◌, slice_index}
use Rattle.aes_block.specs.SBox.{inv_affine}
use Rattle.aes_block.specs.State.{cell, column_of, state_of}
use Rattle.aes_block.specs.KeySchedule.{add_words, rot_word, sub_word}

-- the inverse affine map at each byte
abbrev pub inv_affine_bytes : List ℕ → List ℕ
inv_affine_bytes s = state_of (λ r c. inv_affine (cell s r c))

-- the block whose columns are four words
abbrev pub block_of : List ℕ → List ℕ → List ℕ → List ℕ → List ℕ
block_of u v w x =
    slice_index u 0 ∷ slice_index u 1 ∷ slice_index u 2 ∷ slice_index u 3
    ∷ slice_index v 0 ∷ slice_index v 1 ∷ slice_index v 2 ∷ slice_index v 3
    ∷ slice_index w 0 ∷ slice_index w 1 ∷ slice_index w 2 ∷ slice_index w 3
    ∷ slice_index x 0 ∷ slice_index x 1 ∷ slice_index x 2 ∷ slice_index x 3 ∷ []

-- column c of a block
abbrev pub column : List ℕ → ℕ → List ℕ
column k c = column_of (λ r. cell k r c)

-- byte j of what is added to the first word of k, with the first byte c of the round constant
abbrev pub stirred_byte : List ℕ → ℕ → ℕ → ℕ
stirred_byte k c j = slice_index (add_words (sub_word (rot_word (column k 3))) (c ∷ 0 ∷ 0 ∷ 0 ∷ [])) j

-- the round key after k, with the first byte c of the round constant
unfoldable pub next_round_key : List ℕ → ℕ → List ℕ
next_round_key k c =
    let w0 = add_words (column k 0) (add_words (sub_word (rot_word (column k 3))) (c ∷ 0 ∷ 0 ∷ 0 ∷ [])) in
    let w1 = add_words (column k 1) w0 in
    let w2 = add_words (column k 2) w1 in
    block_of w0 w1 w2 (add_words (column k 3) w2)
