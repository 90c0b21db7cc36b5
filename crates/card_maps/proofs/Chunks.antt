-- Bytes cut into blocks of 256, the last filled up with zero, are what these blocks hold.
use Rattle.std.proofs.Common.{◌≡◌, ℕ, zero, suc, ◌+◌, ◌-◌, ◌*◌, ◌≤◌, List, [], ◌∷◌, ◌++◌, length, drop, take, refl, ap, ◌∙◌, inl, inr, append_assoc, arith}
use Rattle.std.specs.Prelude.{replicate}
use Rattle.card_maps.specs.Plans.{filled}
use Rattle.std.proofs.Math.Seq.{take-append_seam}
use Rattle.std.proofs.lemmas.Bool.{cases_lt}
use Rattle.std.proofs.lemmas.List.{length-drop, length-take, take-append-drop}

abbrev pub chunks : ℕ → List ℕ → List ℕ
chunks zero xs = []
chunks (suc n) xs = filled xs ++ chunks n (drop 256 xs)

-- past the first list
take-past : (a r : List ℕ) (k : ℕ) → take (length a + k) (a ++ r) ≡ a ++ take k r
take-past [] r k = ap (λ (n : ℕ). take n r) (let e : 0 + k ≡ k = omega arith in e)
take-past (x ∷ a) r k = ap (λ (n : ℕ). take n (x ∷ (a ++ r))) (let e : length (x ∷ a) + k ≡ suc (length a + k) = omega arith in e) ∙ ap (λ (l : List ℕ). x ∷ l) (take-past a r k)

whole : (n : ℕ) (xs : List ℕ) → length xs ≤ n → take n xs ≡ xs
whole n [] le = none n
  where
    none : (n : ℕ) → take {A = ℕ} n [] ≡ []
    none zero = refl
    none (suc n) = refl
whole zero (x ∷ xs) le = absurd (omega (arith, le))
whole (suc n) (x ∷ xs) le = ap (λ (l : List ℕ). x ∷ l) (whole n xs (omega (arith, le)))

pub chunked : (n : ℕ) (xs : List ℕ) → length xs ≤ 256 * n → take (length xs) (chunks n xs) ≡ xs
chunked zero [] le = refl
chunked zero (x ∷ xs) le = absurd (omega (arith, le))
chunked (suc n) xs le = elim (cases_lt 256 (length xs)) [
  | inr short ↦
      let first : take 256 xs ≡ xs = whole 256 xs short in
      let pads : List ℕ = replicate (256 - length (take 256 xs)) 0 in
      ap (λ (a : List ℕ). take (length xs) ((a ++ pads) ++ chunks n (drop 256 xs))) first
      ∙ ap (take (length xs)) (append_assoc xs pads (chunks n (drop 256 xs)))
      ∙ take-append_seam xs (pads ++ chunks n (drop 256 xs))
  | inl long ↦
      let wide : length (take 256 xs) ≡ 256 = length-take 256 xs ∙ omega (arith, long) in
      let rest : length (drop 256 xs) ≡ length xs - 256 = length-drop 256 xs in
      let none : 256 - length (take 256 xs) ≡ 0 = omega (arith, wide) in
      let split : length xs ≡ length (take 256 xs) + length (drop 256 xs) = omega (arith, wide, rest, long) in
      ap (λ (k : ℕ). take (length xs) ((take 256 xs ++ replicate k 0) ++ chunks n (drop 256 xs))) none
      ∙ ap (take (length xs)) (append_assoc (take 256 xs) [] (chunks n (drop 256 xs)))
      ∙ ap (λ (k : ℕ). take k (take 256 xs ++ chunks n (drop 256 xs))) split
      ∙ take-past (take 256 xs) (chunks n (drop 256 xs)) (length (drop 256 xs))
      ∙ ap (λ (l : List ℕ). take 256 xs ++ l) (chunked n (drop 256 xs) (omega (arith, le, rest, long)))
      ∙ take-append-drop 256 xs
]
