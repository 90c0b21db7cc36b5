-- The other steps on planes, a byte at a time.
use Rattle.std.proofs.Common.{◌≡◌, ℕ, ◌+◌, ◌*◌, ◌%◌, ◌<◌, List, [], ◌∷◌, slice_index, refl, sym, ap, ◌∙◌, arith, bit_xor}
use Rattle.std.specs.Prelude.{slice_index_or}
use Rattle.std.specs.Int.{bit_at}
use lib.Lanes.{zip2}
use Rattle.std.proofs.lemmas.Nat.{xor_comm, xor_of_8}
use Rattle.std.proofs.lemmas.Nat.Bits.{bit_at-lt, bit_at_xor}
use Rattle.aes_block.specs.BitMatrix.{bits}
use Rattle.aes_block.specs.Cipher.{mix_columns, mix_matrix, row_times}
use Rattle.aes_block.specs.Circuit.{bits_layer, layer, run}
use Rattle.aes_block.specs.Field.{field_times, polynomial_times, remainder}
use Rattle.aes_block.specs.Planes.{ArePlanes, block_in, byte_at, double_gates, double_outs, lane, next_row_places}
use Rattle.aes_block.specs.SBox.{from_bits_of}
use Rattle.aes_block.specs.State.{IsBytes}
use Rattle.aes_block.proofs.AllBytes.{below_all, times_one, triple_is, values}
use Rattle.aes_block.proofs.ByteBits.{bits_back, byte_from, from_bits_lt, number}
use Rattle.aes_block.proofs.Circuit.{bit_sum}
use Rattle.aes_block.proofs.FieldLaws.{field_times-add}
use Rattle.aes_block.proofs.StaysBytes.{state_bytes}
use Rattle.aes_block.proofs.Lanes.{eight, eight_at, eight_planes, length-op}
use Rattle.std.specs.Int.Bits.{xor_assoc}

-- the doubling circuit on the bits of each byte
pub double-all : values (λ b. number (bits_layer double_gates double_outs (bits b))) ≡ values (field_times 2)
unfolding polynomial_times remainder field_times from_bits_of layer run
double-all = refl

byte_lt : (x : List (List ℕ)) (t j : ℕ) → byte_at x t j < 256
byte_lt x t j = from_bits_lt (λ i. bit_at (lane x i j) t) 8 (λ i. bit_at-lt (lane x i j) t)

pub block_bytes : (x : List (List ℕ)) (t : ℕ) → IsBytes (block_in x t)
block_bytes x t = state_bytes (λ r c. byte_at x t (r + 4 * c)) (λ r c. byte_lt x t (r + 4 * c))

-- the sum of planes, plane by plane
abbrev xor_at : List (List ℕ) → List (List ℕ) → ℕ → List ℕ
xor_at x y i = zip2 bit_xor (slice_index_or x i []) (slice_index_or y i [])

pub xored : (x y : List (List ℕ)) → ArePlanes x → ArePlanes y → (t j : ℕ) → t < 8 → j < 16
    → byte_at (eight (xor_at x y)) t j ≡ bit_xor (byte_at x t j) (byte_at y t j)
xored x y hx hy t j low lt =
    let bit = λ (z : List (List ℕ)) (i : ℕ) (h : i < 8).
    bits_back (λ i. bit_at (lane z i j) t) (λ i. bit_at-lt (lane z i j) t) 8 i h in
    byte_from (λ i. bit_at (lane (eight (xor_at x y)) i j) t) (bit_xor (byte_at x t j) (byte_at y t j))
    (xor_of_8 (byte_at x t j) (byte_at y t j) (byte_lt x t j) (byte_lt y t j))
    (λ i h.
    ap (λ (v : List ℕ). bit_at (slice_index v j) t) (eight_at (xor_at x y) i h)
    ∙ bit_sum j t lt (slice_index_or x i []) (slice_index_or y i []) (hx i h) (hy i h)
    ∙ (λ m. (sym (bit x i h) m + sym (bit y i h) m) % 2)
    ∙ sym (bit_at_xor (byte_at x t j) (byte_at y t j) i))

pub xored_planes : (x y : List (List ℕ)) → ArePlanes x → ArePlanes y → ArePlanes (eight (xor_at x y))
xored_planes x y hx hy =
    eight_planes (xor_at x y) (λ i h. length-op bit_xor (slice_index_or x i []) (slice_index_or y i []) (hx i h) (hy i h))

-- 2 (a + b) + b + (c + d)
abbrev pub mixed : ℕ → ℕ → ℕ → ℕ → ℕ
mixed a b c d = bit_xor (bit_xor (field_times 2 (bit_xor a b)) b) (bit_xor c d)

-- as the first row of the matrix has it
mixed_is : (a b c d : ℕ) → b < 256
    → mixed a b c d ≡ bit_xor (bit_xor (bit_xor (field_times 2 a) (field_times 3 b)) c) d
mixed_is a b c d hb =
    ap (λ (x : ℕ). bit_xor (bit_xor x b) (bit_xor c d)) (field_times-add 2 a b)
    ∙ ap (λ (x : ℕ). bit_xor x (bit_xor c d))
    (xor_assoc (field_times 2 a) (field_times 2 b) b ∙ ap (bit_xor (field_times 2 a)) (triple_is b hb))
    ∙ sym (xor_assoc (bit_xor (field_times 2 a) (field_times 3 b)) c d)

-- the last of four terms in front
turned : (w x y z : ℕ) → bit_xor (bit_xor (bit_xor w x) y) z ≡ bit_xor (bit_xor (bit_xor z w) x) y
turned w x y z =
    xor_comm (bit_xor (bit_xor w x) y) z ∙ sym (xor_assoc z (bit_xor w x) y) ∙ ap (λ (u : ℕ). bit_xor u y) (sym (xor_assoc z w x))

-- the four rows, each from the row itself and the three below it, in turn
pub mixed_0 : (a b c d : ℕ) → a < 256 → b < 256 → c < 256 → d < 256 → mixed a b c d ≡ row_times mix_matrix 0 a b c d
mixed_0 a b c d ha hb hc hd =
    mixed_is a b c d hb
    ∙ (λ i. bit_xor (bit_xor (bit_xor (field_times 2 a) (field_times 3 b)) (sym (times_one c hc) i)) (sym (times_one d hd) i))

pub mixed_1 : (a b c d : ℕ) → a < 256 → b < 256 → c < 256 → d < 256 → mixed b c d a ≡ row_times mix_matrix 1 a b c d
mixed_1 a b c d ha hb hc hd =
    mixed_is b c d a hc
    ∙ turned (field_times 2 b) (field_times 3 c) d a
    ∙ (λ i. bit_xor (bit_xor (bit_xor (sym (times_one a ha) i) (field_times 2 b)) (field_times 3 c)) (sym (times_one d hd) i))

pub mixed_2 : (a b c d : ℕ) → a < 256 → b < 256 → c < 256 → d < 256 → mixed c d a b ≡ row_times mix_matrix 2 a b c d
mixed_2 a b c d ha hb hc hd =
    mixed_is c d a b hd
    ∙ turned (field_times 2 c) (field_times 3 d) a b
    ∙ turned b (field_times 2 c) (field_times 3 d) a
    ∙ (λ i. bit_xor (bit_xor (bit_xor (sym (times_one a ha) i) (sym (times_one b hb) i)) (field_times 2 c)) (field_times 3 d))

pub mixed_3 : (a b c d : ℕ) → a < 256 → b < 256 → c < 256 → d < 256 → mixed d a b c ≡ row_times mix_matrix 3 a b c d
mixed_3 a b c d ha hb hc hd =
    mixed_is d a b c ha
    ∙ turned (field_times 2 d) (field_times 3 a) b c
    ∙ turned c (field_times 2 d) (field_times 3 a) b
    ∙ turned b c (field_times 2 d) (field_times 3 a)
    ∙ (λ i. bit_xor (bit_xor (bit_xor (field_times 3 a) (sym (times_one b hb) i)) (sym (times_one c hc) i)) (field_times 2 d))

-- a place is below 16
pub next_row_lt : (j : ℕ) → slice_index next_row_places j < 16
next_row_lt = below_all 16 next_row_places (omega arith) refl

-- a block whose bytes are mixed from the bytes of their columns
pub mixed_block : (x r : List (List ℕ)) (t : ℕ)
    → ((j : ℕ) → j < 16 → byte_at r t j ≡ mixed (byte_at x t j) (byte_at x t (slice_index next_row_places j))
    (byte_at x t (slice_index next_row_places (slice_index next_row_places j)))
    (byte_at x t (slice_index next_row_places (slice_index next_row_places (slice_index next_row_places j)))))
    → block_in r t ≡ mix_columns (block_in x t)
unfolding mix_columns
mixed_block x r t h =
    let b = byte_at x t in
    let lt = byte_lt x t in
    let row_0 = λ (k : ℕ). mixed_0 (b k) (b (k + 1)) (b (k + 2)) (b (k + 3)) (lt k) (lt (k + 1)) (lt (k + 2)) (lt (k + 3)) in
    let row_1 = λ (k : ℕ). mixed_1 (b k) (b (k + 1)) (b (k + 2)) (b (k + 3)) (lt k) (lt (k + 1)) (lt (k + 2)) (lt (k + 3)) in
    let row_2 = λ (k : ℕ). mixed_2 (b k) (b (k + 1)) (b (k + 2)) (b (k + 3)) (lt k) (lt (k + 1)) (lt (k + 2)) (lt (k + 3)) in
    let row_3 = λ (k : ℕ). mixed_3 (b k) (b (k + 1)) (b (k + 2)) (b (k + 3)) (lt k) (lt (k + 1)) (lt (k + 2)) (lt (k + 3)) in
    λ i.
    (h 0 (omega arith) ∙ row_0 0) i
    ∷ (h 1 (omega arith) ∙ row_1 0) i
    ∷ (h 2 (omega arith) ∙ row_2 0) i
    ∷ (h 3 (omega arith) ∙ row_3 0) i
    ∷ (h 4 (omega arith) ∙ row_0 4) i
    ∷ (h 5 (omega arith) ∙ row_1 4) i
    ∷ (h 6 (omega arith) ∙ row_2 4) i
    ∷ (h 7 (omega arith) ∙ row_3 4) i
    ∷ (h 8 (omega arith) ∙ row_0 8) i
    ∷ (h 9 (omega arith) ∙ row_1 8) i
    ∷ (h 10 (omega arith) ∙ row_2 8) i
    ∷ (h 11 (omega arith) ∙ row_3 8) i
    ∷ (h 12 (omega arith) ∙ row_0 12) i
    ∷ (h 13 (omega arith) ∙ row_1 12) i
    ∷ (h 14 (omega arith) ∙ row_2 12) i
    ∷ (h 15 (omega arith) ∙ row_3 12) i ∷ []
