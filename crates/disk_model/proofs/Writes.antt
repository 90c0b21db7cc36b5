-- What stands where after a write or a change of the length.
use Rattle.std.proofs.Common.{append_assoc, ◌≡◌, ◌⊎◌, inl, inr, ℕ, ◌+◌, ◌-◌, ◌<◌, ◌≤◌, List, ◌++◌, length, get_or, take, drop, min, refl, sym, ◌∙◌, ap, arith, length-append, length-drop, length-take, replicate}
use Rattle.std.proofs.lemmas.List.{length-replicate, get_or_append_left, get_or-append_right, get_or-take, get_or-drop}
use Rattle.disk_model.specs.Images.{Has}
use Rattle.disk_model.specs.Bytes.{after_write, after_resize}

module _ (old : List ℕ) (at : ℕ) (bytes : List ℕ) where
  n : ℕ
  n = length bytes

  pub length-after_write : length (after_write old at bytes) ≡ (at + length bytes) + (length old - (at + length bytes))
  length-after_write = simp (length-append, length-take, length-replicate, length-drop) (omega arith)

  pub written_before : (p : ℕ) → p < at → p < length old → get_or (after_write old at bytes) p 0 ≡ get_or old p 0
  written_before p lt within = get_or_append_left (take at old) (replicate (at - length old) 0 ++ (bytes ++ drop (at + length bytes) old)) 0 p (omega (arith, length-take at old)) ∙ get_or-take at old p 0 lt

  front : length (take at old ++ replicate (at - length old) 0) ≡ at
  front = simp (length-append, length-take, length-replicate) (omega arith)

  regroup : after_write old at bytes ≡ (take at old ++ replicate (at - length old) 0) ++ (bytes ++ drop (at + length bytes) old)
  regroup = sym (append_assoc (take at old) (replicate (at - length old) 0) (bytes ++ drop (at + length bytes) old))

  pub written_within : (k : ℕ) → k < length bytes → get_or (after_write old at bytes) (at + k) 0 ≡ get_or bytes k 0
  written_within k lt =
      ap (λ (l : List ℕ). get_or l (at + k) 0) regroup ∙ get_or-append_right (take at old ++ replicate (at - length old) 0) (bytes ++ drop (at + length bytes) old) at (at + k) 0 front (omega arith)
      ∙ ap (λ (i : ℕ). get_or (bytes ++ drop (at + length bytes) old) i 0) (let e : (at + k) - at ≡ k = omega arith in e)
      ∙ get_or_append_left bytes (drop (at + length bytes) old) 0 k lt

  pub written_behind : (p : ℕ) → at + length bytes ≤ p → get_or (after_write old at bytes) p 0 ≡ get_or old p 0
  written_behind p ge =
      ap (λ (l : List ℕ). get_or l p 0) regroup ∙ get_or-append_right (take at old ++ replicate (at - length old) 0) (bytes ++ drop (at + length bytes) old) at p 0 front (omega arith)
      ∙ get_or-append_right bytes (drop (at + length bytes) old) (length bytes) (p - at) 0 refl (omega arith)
      ∙ get_or-drop (at + length bytes) old ((p - at) - length bytes) 0
      ∙ ap (λ (i : ℕ). get_or old i 0) (let e : (at + length bytes) + ((p - at) - length bytes) ≡ p = omega arith in e)

  -- outside the range what was there stays
  pub written_keeps : (p x : ℕ) → (p < at) ⊎ (at + length bytes ≤ p) → Has old p x → Has (after_write old at bytes) p x
  written_keeps p x (inl lt) h = record { below = omega (arith, length-after_write, h.below); is = written_before p lt h.below ∙ h.is }
  written_keeps p x (inr ge) h = record { below = omega (arith, length-after_write, h.below); is = written_behind p ge ∙ h.is }

  -- and nothing else comes but between the old end and the start
  pub written_from : (p x : ℕ) → (p < min (length old) at) ⊎ (at + length bytes ≤ p) → Has (after_write old at bytes) p x → Has old p x
  written_from p x (inl lt) h = record { below = omega arith; is = sym (written_before p (omega arith) (omega arith)) ∙ h.is }
  written_from p x (inr ge) h = record { below = omega (arith, length-after_write, h.below); is = sym (written_behind p ge) ∙ h.is }

  -- in the range the new bytes stand
  pub written_has : (k : ℕ) → k < length bytes → Has (after_write old at bytes) (at + k) (get_or bytes k 0)
  written_has k lt = record { below = omega (arith, length-after_write); is = written_within k lt }

module _ (old : List ℕ) (size : ℕ) where
  pub length-after_resize : length (after_resize old size) ≡ size
  length-after_resize = simp (length-append, length-take, length-replicate) (omega arith)

  pub resized_at : (p : ℕ) → p < size → p < length old → get_or (after_resize old size) p 0 ≡ get_or old p 0
  resized_at p lt within = get_or_append_left (take size old) (replicate (size - length old) 0) 0 p (omega (arith, length-take size old)) ∙ get_or-take size old p 0 lt

  pub resized_keeps : (p x : ℕ) → p < size → Has old p x → Has (after_resize old size) p x
  resized_keeps p x lt h = record { below = omega (arith, length-after_resize); is = resized_at p lt h.below ∙ h.is }

  pub resized_from : (p x : ℕ) → p < length old → Has (after_resize old size) p x → Has old p x
  resized_from p x lt h = record { below = lt; is = sym (resized_at p (omega (arith, length-after_resize, h.below)) lt) ∙ h.is }
