-- A mask laid over bytes, byte by byte.
use Rattle.std.proofs.Common.{◌≡◌, ℕ, zero, suc, ◌+◌, ◌<◌, List, [], ◌∷◌, length, min, get_or, take, set, bit_xor, refl, sym, ◌∙◌, ap, arith, add-one}
use Rattle.disk_model.specs.Bytes.{overlaid}

pub overlaid-nil : (bytes : List ℕ) → overlaid bytes [] ≡ bytes
overlaid-nil [] = refl
overlaid-nil (b ∷ bytes) = refl

-- one place more of the mask
pub overlaid_step : (bytes mask : List ℕ) (i : ℕ) → i < length bytes → i < length mask
    → set (overlaid bytes (take i mask)) i (bit_xor (get_or (overlaid bytes (take i mask)) i 0) (get_or mask i 0)) ≡ overlaid bytes (take (suc i) mask)
overlaid_step [] mask i lt gt = absurd (omega arith)
overlaid_step (b ∷ bytes) [] i lt gt = absurd (omega arith)
overlaid_step (b ∷ bytes) (m ∷ mask) zero lt gt = ap (λ (l : List ℕ). bit_xor b m ∷ l) (sym (overlaid-nil bytes))
overlaid_step (b ∷ bytes) (m ∷ mask) (suc i) lt gt = ap (λ (l : List ℕ). bit_xor b m ∷ l) (overlaid_step bytes mask i (omega arith) (omega arith))

pub overlaid_push : (now bytes mask : List ℕ) (i : ℕ) → now ≡ overlaid bytes (take i mask) → i < length bytes → i < length mask
    → set now i (bit_xor (get_or now i 0) (get_or mask i 0)) ≡ overlaid bytes (take (i + 1) mask)
overlaid_push now bytes mask i is lt gt =
    ap (λ (l : List ℕ). set l i (bit_xor (get_or l i 0) (get_or mask i 0))) is ∙ overlaid_step bytes mask i lt gt ∙ ap (λ (n : ℕ). overlaid bytes (take n mask)) (sym (add-one i))

-- no more of the mask counts than there are bytes
pub overlaid_all : (bytes mask : List ℕ) (n : ℕ) → n ≡ min (length bytes) (length mask) → overlaid bytes (take n mask) ≡ overlaid bytes mask
overlaid_all [] mask n is = refl
overlaid_all (b ∷ bytes) [] zero is = refl
overlaid_all (b ∷ bytes) [] (suc n) is = refl
overlaid_all (b ∷ bytes) (m ∷ mask) zero is = absurd (omega arith)
overlaid_all (b ∷ bytes) (m ∷ mask) (suc n) is = ap (λ (l : List ℕ). bit_xor b m ∷ l) (overlaid_all bytes mask n (omega arith))
