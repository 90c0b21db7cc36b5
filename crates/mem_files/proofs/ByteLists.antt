-- A change of bytes by bytes leaves bytes.
use Rattle.std.proofs.Common.{ℕ, zero, suc, ◌-◌, List, [], ◌∷◌, ◌++◌, length, take, drop, replicate, arith}
use Rattle.std.proofs.lemmas.Nat.{xor_of_8}
use Rattle.disk_model.specs.Bytes.{AreBytes, after_mask, after_resize, after_write, overlaid}

bytes-append : (xs ys : List ℕ) → AreBytes xs → AreBytes ys → AreBytes (xs ++ ys)
bytes-append [] ys left right k = right k
bytes-append (x ∷ xs) ys left right zero = left 0
bytes-append (x ∷ xs) ys left right (suc k) = bytes-append xs ys (λ j. left (suc j)) right k

bytes-take : (n : ℕ) (xs : List ℕ) → AreBytes xs → AreBytes (take n xs)
bytes-take zero xs each k = omega arith
bytes-take (suc n) [] each k = omega arith
bytes-take (suc n) (x ∷ xs) each zero = each 0
bytes-take (suc n) (x ∷ xs) each (suc k) = bytes-take n xs (λ j. each (suc j)) k

bytes-drop : (n : ℕ) (xs : List ℕ) → AreBytes xs → AreBytes (drop n xs)
bytes-drop zero xs each k = each k
bytes-drop (suc n) [] each k = omega arith
bytes-drop (suc n) (x ∷ xs) each k = bytes-drop n xs (λ j. each (suc j)) k

zeros : (n : ℕ) → AreBytes (replicate n 0)
zeros zero k = omega arith
zeros (suc n) zero = omega arith
zeros (suc n) (suc k) = zeros n k

overlaid-bytes : (bytes mask : List ℕ) → AreBytes bytes → AreBytes mask → AreBytes (overlaid bytes mask)
overlaid-bytes [] mask each bits k = omega arith
overlaid-bytes (b ∷ bytes) [] each bits k = each k
overlaid-bytes (b ∷ bytes) (m ∷ mask) each bits zero = xor_of_8 b m (each 0) (bits 0)
overlaid-bytes (b ∷ bytes) (m ∷ mask) each bits (suc k) = overlaid-bytes bytes mask (λ j. each (suc j)) (λ j. bits (suc j)) k

pub written-bytes : (old : List ℕ) (at : ℕ) (bytes : List ℕ) → AreBytes old → AreBytes bytes → AreBytes (after_write old at bytes)
written-bytes old at bytes each these =
    bytes-append (take at old) _ (bytes-take at old each)
    (bytes-append (replicate (at - length old) 0) _ (zeros (at - length old))
    (bytes-append bytes _ these (bytes-drop _ old each)))

pub resized-bytes : (old : List ℕ) (size : ℕ) → AreBytes old → AreBytes (after_resize old size)
resized-bytes old size each = bytes-append (take size old) _ (bytes-take size old each) (zeros (size - length old))

pub masked-bytes : (old : List ℕ) (at : ℕ) (mask : List ℕ) → AreBytes old → AreBytes mask → AreBytes (after_mask old at mask)
masked-bytes old at mask each bits = bytes-append (take at old) _ (bytes-take at old each) (overlaid-bytes (drop at old) mask (bytes-drop at old each) bits)
