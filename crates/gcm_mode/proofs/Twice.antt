-- The counter mode undoes itself.
use Rattle.std.proofs.Common.{◌≡◌, ℕ, ◌<◌, List, length, get_or, bit_xor, ap, ◌∙◌, arith}
use Rattle.std.specs.Int.Bits.{xor_assoc, xor_self, xor_zero_r}
use Rattle.std.proofs.lemmas.List.{ext_get_or}
use Rattle.gcm_mode.specs.CounterMode.{gctr, stream_byte}
use Rattle.gcm_mode.specs.Gcm.{gcm_text}
use Rattle.gcm_mode.proofs.Stream.{length-gctr, get_or-gctr}

-- GCTR twice from one counter block is the text
pub gctr-gctr : (e : List ℕ → List ℕ) (first text : List ℕ) → gctr e first (gctr e first text) ≡ text
gctr-gctr e first text =
    let made : List ℕ = gctr e first text in
    let len : length made ≡ length text = length-gctr e first text in
    ext_get_or 0 (gctr e first made) text (length-gctr e first made ∙ len) (λ k lt.
    let within : k < length made = omega (arith, length-gctr e first made) in
    let s : ℕ = stream_byte e first k in
    get_or-gctr e first made k within
    ∙ ap (λ b. bit_xor b s) (get_or-gctr e first text k (omega (arith, len)))
    ∙ xor_assoc (get_or text k 0) s s ∙ ap (bit_xor (get_or text k 0)) (xor_self s) ∙ xor_zero_r (get_or text k 0))

-- the plaintext of its own ciphertext
pub gcm_text-gcm_text : (e : List ℕ → List ℕ) (iv text : List ℕ) → gcm_text e iv (gcm_text e iv text) ≡ text
unfolding gcm_text
gcm_text-gcm_text e iv text = gctr-gctr e _ text
