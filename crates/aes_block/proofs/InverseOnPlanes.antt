-- Each step of the inverse cipher from the cipher's own, on blocks.
use Rattle.std.proofs.Common.{◌≡◌, ℕ, ◌+◌, ◌*◌, ◌<◌, List, [], ◌∷◌, refl, arith}
use Rattle.aes_block.specs.BitMatrix.{bits}
use Rattle.aes_block.specs.Cipher.{mix_columns, shift_rows, sub_bytes}
use Rattle.aes_block.specs.Circuit.{bits_layer, layer, run}
use Rattle.aes_block.specs.CodeSteps.{inv_affine_bytes}
use Rattle.aes_block.specs.Field.{field_times, inverse, inverse_below, polynomial_times, remainder}
use Rattle.aes_block.specs.InverseCipher.{inv_mix_columns, inv_shift_rows, inv_sub_bytes}
use Rattle.aes_block.specs.SBox.{from_bits_of, inv_affine, inv_s_box, s_box}
use Rattle.aes_block.specs.SBoxCircuit.{inv_affine_gates, inv_affine_outs}
use Rattle.aes_block.specs.State.{IsBytes, cell, state_of}
use Rattle.aes_block.proofs.AllBytes.{same_at_byte, values}
use Rattle.aes_block.proofs.ByteBits.{number}
use Rattle.aes_block.proofs.Unmixing.{thrice_row}

-- the circuit on the bits of each byte
pub inv_affine-all : values (λ b. number (bits_layer inv_affine_gates inv_affine_outs (1 ∷ bits b))) ≡ values inv_affine
unfolding from_bits_of layer run
inv_affine-all = refl

-- the S-box between two inverse affine maps
inv_s_box-all : values (λ b. inv_affine (s_box (inv_affine b))) ≡ values inv_s_box
unfolding polynomial_times remainder field_times inverse_below inverse from_bits_of s_box inv_s_box
inv_s_box-all = refl

pub unsubbed_block : (s : List ℕ) → IsBytes s → inv_affine_bytes (sub_bytes (inv_affine_bytes s)) ≡ inv_sub_bytes s
unfolding sub_bytes inv_sub_bytes
unsubbed_block s h =
    λ i. state_of (λ r c. same_at_byte (λ b. inv_affine (s_box (inv_affine b))) inv_s_box inv_s_box-all (cell s r c) (h (r + 4 * c)) i)

pub unshifted_block : (s : List ℕ) → shift_rows (shift_rows (shift_rows s)) ≡ inv_shift_rows s
unfolding shift_rows inv_shift_rows
unshifted_block s = refl

pub unmixed_block : (s : List ℕ) → IsBytes s → mix_columns (mix_columns (mix_columns s)) ≡ inv_mix_columns s
unfolding mix_columns inv_mix_columns
unmixed_block s h =
    let row = λ (r c : ℕ) (lt : r < 4). thrice_row r (cell s 0 c) (cell s 1 c) (cell s 2 c) (cell s 3 c) lt
    (h (0 + 4 * c)) (h (1 + 4 * c)) (h (2 + 4 * c)) (h (3 + 4 * c)) in
    λ i.
    row 0 0 (omega arith) i ∷ row 1 0 (omega arith) i ∷ row 2 0 (omega arith) i ∷ row 3 0 (omega arith) i
    ∷ row 0 1 (omega arith) i ∷ row 1 1 (omega arith) i ∷ row 2 1 (omega arith) i ∷ row 3 1 (omega arith) i
    ∷ row 0 2 (omega arith) i ∷ row 1 2 (omega arith) i ∷ row 2 2 (omega arith) i ∷ row 3 2 (omega arith) i
    ∷ row 0 3 (omega arith) i ∷ row 1 3 (omega arith) i ∷ row 2 3 (omega arith) i ∷ row 3 3 (omega arith) i ∷ []
