-- InvMixColumns undoes MixColumns, and is its third power: products by a matrix are additive, so
-- tests on one byte at a time show it.
use Rattle.std.proofs.Common.{◌≡◌, ℕ, zero, suc, ◌<◌, List, [], ◌∷◌, map, get_or, refl, sym, ap, ◌∙◌, arith, bit_xor, slice_index}
use Rattle.std.specs.Prelude.{if◌then◌else◌, ◌==◌, slice_index_or}
use Rattle.std.specs.List.{range_with_len}
use Rattle.std.proofs.lemmas.List.FromFn.{get_or-map-range_with_len}
use Rattle.std.specs.Int.Bits.{xor_zero_l, xor_zero_r}
use Rattle.aes_block.specs.Cipher.{circulant, mix_matrix, row_times}
use Rattle.aes_block.specs.Field.{field_times, polynomial_times, remainder}
use Rattle.aes_block.specs.InverseCipher.{inv_mix_matrix}
use Rattle.aes_block.proofs.AllBytes.{same_at_byte, values}
use Rattle.aes_block.proofs.FieldLaws.{field_times-add, xor_swap}

-- a byte made of the four of a column
abbrev pub OfColumn : Type 0
OfColumn = ℕ → ℕ → ℕ → ℕ → ℕ

abbrev IsAdditive : OfColumn → Type 0
IsAdditive f = (a b c d p q r s : ℕ) → f (bit_xor a p) (bit_xor b q) (bit_xor c r) (bit_xor d s) ≡ bit_xor (f a b c d) (f p q r s)

row_times-add : (m : ℕ → ℕ → ℕ) (n : ℕ) → IsAdditive (row_times m n)
row_times-add m n a b c d p q r s =
    let third = bit_xor (field_times (m n 2) c) (field_times (m n 2) r) in
    let fourth = bit_xor (field_times (m n 3) d) (field_times (m n 3) s) in
    (λ i. bit_xor (bit_xor (bit_xor (field_times-add (m n 0) a p i) (field_times-add (m n 1) b q i))
    (field_times-add (m n 2) c r i)) (field_times-add (m n 3) d s i))
    ∙ ap (λ (x : ℕ). bit_xor (bit_xor x third) fourth)
    (xor_swap (field_times (m n 0) a) (field_times (m n 0) p) (field_times (m n 1) b) (field_times (m n 1) q))
    ∙ ap (λ (x : ℕ). bit_xor x fourth) (xor_swap _ _ (field_times (m n 2) c) (field_times (m n 2) r))
    ∙ xor_swap _ _ (field_times (m n 3) d) (field_times (m n 3) s)

-- the byte in row n
abbrev pub place : ℕ → OfColumn
place n a b c d = slice_index (a ∷ b ∷ c ∷ d ∷ []) n

place-add : (n : ℕ) → IsAdditive (place n)
place-add zero a b c d p q r s = refl
place-add (suc zero) a b c d p q r s = refl
place-add (suc (suc zero)) a b c d p q r s = refl
place-add (suc (suc (suc zero))) a b c d p q r s = refl
place-add (suc (suc (suc (suc n)))) a b c d p q r s = refl

-- row n of a matrix times the column that f makes
abbrev pub after : (ℕ → ℕ → ℕ) → (ℕ → OfColumn) → ℕ → OfColumn
after m f n a b c d = row_times m n (f 0 a b c d) (f 1 a b c d) (f 2 a b c d) (f 3 a b c d)

after-add : (m : ℕ → ℕ → ℕ) (f : ℕ → OfColumn) → ((n : ℕ) → IsAdditive (f n)) → (n : ℕ) → IsAdditive (after m f n)
after-add m f add n a b c d p q r s =
    (λ i. row_times m n (add 0 a b c d p q r s i) (add 1 a b c d p q r s i) (add 2 a b c d p q r s i) (add 3 a b c d p q r s i))
    ∙ row_times-add m n _ _ _ _ _ _ _ _

split : (f : OfColumn) → IsAdditive f → (a b c d : ℕ)
    → f a b c d ≡ bit_xor (bit_xor (f a 0 0 0) (f 0 b 0 0)) (bit_xor (f 0 0 c 0) (f 0 0 0 d))
split f add a b c d =
    (λ i. f (sym (xor_zero_r a) i) (sym (xor_zero_r b) i) (sym (xor_zero_l c) i) (sym (xor_zero_l d) i))
    ∙ add a b 0 0 0 0 c d
    ∙ (λ i. bit_xor (f (sym (xor_zero_r a) i) (sym (xor_zero_l b) i) 0 0) (f 0 0 (sym (xor_zero_r c) i) (sym (xor_zero_l d) i)))
    ∙ (λ i. bit_xor (add a 0 0 0 0 b 0 0 i) (add 0 0 c 0 0 0 0 d i))

-- of a column with x in row k and zeros
abbrev alone : OfColumn → ℕ → ℕ → ℕ
alone f k x = f (if k == 0 then x else 0) (if k == 1 then x else 0) (if k == 2 then x else 0) (if k == 3 then x else 0)

-- of columns with one byte, in each place
abbrev tests : OfColumn → List (List ℕ)
tests f = map (λ k. values (alone f k)) (range_with_len 0 4)

same_of_column : (f g : OfColumn) → IsAdditive f → IsAdditive g → tests f ≡ tests g
    → (a b c d : ℕ) → a < 256 → b < 256 → c < 256 → d < 256 → f a b c d ≡ g a b c d
same_of_column f g f_adds g_adds same a b c d ha hb hc hd =
    let test = λ (k : ℕ). ap (λ (l : List (List ℕ)). slice_index_or l k []) same in
    split f f_adds a b c d
    ∙ (λ i. bit_xor
    (bit_xor (same_at_byte (alone f 0) (alone g 0) (test 0) a ha i) (same_at_byte (alone f 1) (alone g 1) (test 1) b hb i))
    (bit_xor (same_at_byte (alone f 2) (alone g 2) (test 2) c hc i) (same_at_byte (alone f 3) (alone g 3) (test 3) d hd i)))
    ∙ sym (split g g_adds a b c d)

-- of four rows
abbrev row_tests : (ℕ → OfColumn) → List (List (List ℕ))
row_tests f = map (λ n. tests (f n)) (range_with_len 0 4)

row_test : (f g : ℕ → OfColumn) → row_tests f ≡ row_tests g → (n : ℕ) → n < 4 → tests (f n) ≡ tests (g n)
row_test f g same n lt =
    let at = λ (h : ℕ → OfColumn). get_or-map-range_with_len (λ k. tests (h k)) 0 4 n n [] lt (omega arith) in
    sym (at f) ∙ ap (λ (l : List (List (List ℕ))). get_or l n []) same ∙ at g

abbrev pub mixed : ℕ → OfColumn
mixed = after mix_matrix place

mixed-add : (n : ℕ) → IsAdditive (mixed n)
mixed-add = after-add mix_matrix place place-add

unmixed-all : row_tests (after inv_mix_matrix mixed) ≡ row_tests place
unfolding polynomial_times remainder field_times
unmixed-all = refl

-- the inverse matrix times the matrix times a column
pub unmixed_row : (n a b c d : ℕ) → n < 4 → a < 256 → b < 256 → c < 256 → d < 256 → after inv_mix_matrix mixed n a b c d ≡ place n a b c d
unmixed_row n a b c d lt =
    same_of_column (after inv_mix_matrix mixed n) (place n) (after-add inv_mix_matrix mixed mixed-add n) (place-add n)
    (row_test (after inv_mix_matrix mixed) place unmixed-all n lt) a b c d

-- the square of the matrix
abbrev square_matrix : ℕ → ℕ → ℕ
square_matrix = circulant (0x05 ∷ 0x00 ∷ 0x04 ∷ 0x00 ∷ [])

abbrev squared : ℕ → OfColumn
squared = after square_matrix place

squared-add : (n : ℕ) → IsAdditive (squared n)
squared-add = after-add square_matrix place place-add

twice-all : row_tests (after mix_matrix mixed) ≡ row_tests squared
unfolding polynomial_times remainder field_times
twice-all = refl

twice_row : (n a b c d : ℕ) → n < 4 → a < 256 → b < 256 → c < 256 → d < 256 → after mix_matrix mixed n a b c d ≡ squared n a b c d
twice_row n a b c d lt =
    same_of_column (after mix_matrix mixed n) (squared n) (after-add mix_matrix mixed mixed-add n) (squared-add n)
    (row_test (after mix_matrix mixed) squared twice-all n lt) a b c d

thrice_0 : tests (after mix_matrix squared 0) ≡ tests (after inv_mix_matrix place 0)
unfolding polynomial_times remainder field_times
thrice_0 = refl

thrice_1 : tests (after mix_matrix squared 1) ≡ tests (after inv_mix_matrix place 1)
unfolding polynomial_times remainder field_times
thrice_1 = refl

thrice_2 : tests (after mix_matrix squared 2) ≡ tests (after inv_mix_matrix place 2)
unfolding polynomial_times remainder field_times
thrice_2 = refl

thrice_3 : tests (after mix_matrix squared 3) ≡ tests (after inv_mix_matrix place 3)
unfolding polynomial_times remainder field_times
thrice_3 = refl

thrice_test : (n : ℕ) → n < 4 → tests (after mix_matrix squared n) ≡ tests (after inv_mix_matrix place n)
thrice_test zero lt = thrice_0
thrice_test (suc zero) lt = thrice_1
thrice_test (suc (suc zero)) lt = thrice_2
thrice_test (suc (suc (suc zero))) lt = thrice_3
thrice_test (suc (suc (suc (suc n)))) lt = absurd (omega arith)

-- the matrix times itself times itself times a column
pub thrice_row : (n a b c d : ℕ) → n < 4 → a < 256 → b < 256 → c < 256 → d < 256
    → after mix_matrix (after mix_matrix mixed) n a b c d ≡ after inv_mix_matrix place n a b c d
thrice_row n a b c d lt ha hb hc hd =
    let twice = λ (k : ℕ) (low : k < 4). twice_row k a b c d low ha hb hc hd in
    (λ i. row_times mix_matrix n (twice 0 (omega arith) i) (twice 1 (omega arith) i) (twice 2 (omega arith) i) (twice 3 (omega arith) i))
    ∙ same_of_column (after mix_matrix squared n) (after inv_mix_matrix place n)
    (after-add mix_matrix squared squared-add n) (after-add inv_mix_matrix place place-add n) (thrice_test n lt) a b c d ha hb hc hd
