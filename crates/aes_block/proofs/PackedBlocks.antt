-- Blocks as planes, and back: from a fact of each byte to one of each block.
use Rattle.std.proofs.Common.{◌≡◌, ℕ, ◌+◌, ◌*◌, ◌<◌, List, [], ◌∷◌, length, slice_index, sym, ap, ◌∙◌, arith, bit_xor}
use Rattle.std.specs.Prelude.{slice_index_or}
use Rattle.std.specs.Int.{bit_at}
use Rattle.std.proofs.lemmas.Nat.Bits.{bit_at-lt}
use Rattle.aes_block.specs.Cipher.{add_round_key, shift_rows, sub_bytes}
use Rattle.aes_block.specs.Planes.{ArePlanes, block_in, byte_at, lane, shift_places}
use Rattle.aes_block.specs.SBox.{s_box}
use Rattle.aes_block.specs.State.{IsBytes, state_of}
use Rattle.aes_block.proofs.ByteBits.{bits_back, byte_from}
use Rattle.aes_block.proofs.Schedule.{cells_whole}

-- what a transpose gives
abbrev pub IsTransposed : List (List ℕ) → List (List ℕ) → Type 0
IsTransposed x r = (i j : ℕ) → i < 8 → j < 16 → lane r i j ≡ byte_at x i j

pub same_block : (f g : ℕ → ℕ) → ((j : ℕ) → j < 16 → f j ≡ g j) → state_of (λ r c. f (r + 4 * c)) ≡ state_of (λ r c. g (r + 4 * c))
same_block f g h =
    λ i.
    h 0 (omega arith) i ∷ h 1 (omega arith) i ∷ h 2 (omega arith) i ∷ h 3 (omega arith) i
    ∷ h 4 (omega arith) i ∷ h 5 (omega arith) i ∷ h 6 (omega arith) i ∷ h 7 (omega arith) i
    ∷ h 8 (omega arith) i ∷ h 9 (omega arith) i ∷ h 10 (omega arith) i ∷ h 11 (omega arith) i
    ∷ h 12 (omega arith) i ∷ h 13 (omega arith) i ∷ h 14 (omega arith) i ∷ h 15 (omega arith) i ∷ []

packed_byte : (x r : List (List ℕ)) → IsTransposed x r → (t j : ℕ) → t < 8 → j < 16 → lane x t j < 256 → byte_at r t j ≡ lane x t j
packed_byte x r value t j low lt small =
    byte_from (λ i. bit_at (lane r i j) t) (lane x t j) small (λ i h.
    ap (λ (v : ℕ). bit_at v t) (value i j h lt) ∙ bits_back (λ s. bit_at (lane x s j) i) (λ s. bit_at-lt (lane x s j) i) 8 t low)

-- the transpose of blocks is their planes
pub packed : (x r : List (List ℕ)) → IsTransposed x r → (t : ℕ) → t < 8 → (block : List ℕ) → slice_index_or x t [] ≡ block
    → length block ≡ 16 → IsBytes block → block_in r t ≡ block
packed x r value t low block is long bytes =
    let at = λ (j : ℕ). ap (λ (b : List ℕ). slice_index b j) is in
    same_block (byte_at r t) (slice_index block) (λ j lt. packed_byte x r value t j low lt (omega (arith, at j, bytes j)) ∙ at j)
    ∙ cells_whole block long

-- the transpose of planes is their blocks
pub unpacked : (x r : List (List ℕ)) → IsTransposed x r → ArePlanes r → (t : ℕ) → t < 8 → slice_index_or r t [] ≡ block_in x t
unpacked x r value planes t low =
    sym (cells_whole (slice_index_or r t []) (planes t low)) ∙ same_block (lane r t) (byte_at x t) (λ j lt. value t j low lt)

pub subbed_block : (x r : List (List ℕ)) (t : ℕ) → ((j : ℕ) → j < 16 → byte_at r t j ≡ s_box (byte_at x t j))
    → block_in r t ≡ sub_bytes (block_in x t)
unfolding sub_bytes
subbed_block x r t h = same_block (byte_at r t) (λ j. s_box (byte_at x t j)) h

pub shifted_block : (x r : List (List ℕ)) (t : ℕ) → ((j : ℕ) → j < 16 → byte_at r t j ≡ byte_at x t (slice_index shift_places j))
    → block_in r t ≡ shift_rows (block_in x t)
unfolding shift_rows
shifted_block x r t h = same_block (byte_at r t) (λ j. byte_at x t (slice_index shift_places j)) h

pub added_block : (x k r : List (List ℕ)) (t : ℕ) → ((j : ℕ) → j < 16 → byte_at r t j ≡ bit_xor (byte_at x t j) (byte_at k t j))
    → block_in r t ≡ add_round_key (block_in x t) (block_in k t)
unfolding add_round_key
added_block x k r t h = same_block (byte_at r t) (λ j. bit_xor (byte_at x t j) (byte_at k t j)) h
