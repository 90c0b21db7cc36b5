-- Bytes that a call of the file moved.
use Rattle.std.proofs.Common.{◌≡◌, inl, inr, ℕ, ◌+◌, ◌-◌, ◌<◌, ◌≤◌, min, List, ◌++◌, length, get_or, take, drop, replicate, refl, sym, ◌∙◌, ap, arith, length-take, length-drop, length-append}
use Rattle.std.proofs.lemmas.Bool.{cases_lt}
use Rattle.std.proofs.lemmas.List.{append_assoc, drop_at, ext_get_or, get_or-drop, get_or-replicate, get_or-take, get_or_append_left, get_or-append_right, get_or_past, length-replicate, take_at}
use Rattle.disk_model.specs.Bytes.{after_write}
use Rattle.node_image.specs.Selection.{bytes_at}
use Rattle.node_image.proofs.ImageBytes.{bytes_within, get_or-bytes_at, length-bytes_at}

zeros : ℕ → List ℕ
zeros n = replicate n 0

length-zeros : (n : ℕ) → length (zeros n) ≡ n
unfolding zeros
length-zeros n = length-replicate {A = ℕ} n 0

zero_at : (n k : ℕ) → get_or (zeros n) k 0 ≡ 0
unfolding zeros
zero_at n k = elim (cases_lt k n) [
  | inl low ↦ get_or-replicate {A = ℕ} n k 0 0 low
  | inr past ↦ get_or_past (zeros n) k 0 (omega (arith, length-zeros n, past))
]

-- a read whose rest is cleared gives the bytes, with zero past the end
pub padded_read : (file old read now : List ℕ) (at count size : ℕ) → size ≡ length old → count ≡ min (length old) (length file - at)
    → read ≡ take count (drop at file) ++ drop count old → now ≡ take count read ++ replicate (length read - count) 0 → now ≡ bytes_at file at size
unfolding zeros
padded_read file old read now at count size wide counted got cleared =
    let front : List ℕ = take count (drop at file) in
    let long : length front ≡ count = omega (arith, length-take count (drop at file), length-drop at file, counted) in
    let all : length read ≡ size = omega (arith, ap length got, length-append front (drop count old), length-drop count old, long, wide, counted) in
    let kept : take count read ≡ front = ap (take count) got ∙ take_at front (drop count old) count long in
    let whole : now ≡ front ++ replicate (size - count) 0 = cleared ∙ (λ i. kept i ++ replicate (all i - count) 0) in
    let count_low : count ≤ size = omega (arith, counted, wide) in
    let now_long : length now ≡ size = omega (arith, ap length whole, length-append front (replicate (size - count) 0), length-zeros (size - count), long, count_low) in
    ext_get_or 0 now (bytes_at file at size) (now_long ∙ sym (length-bytes_at file at size)) (λ j lt.
    let under : j < size = omega (arith, lt, now_long) in
    ap (λ (l : List ℕ). get_or l j 0) whole ∙ place file old at count size j counted wide long under ∙ sym (get_or-bytes_at file at size j under))
  where
    place : (file old : List ℕ) (at count size j : ℕ) → count ≡ min (length old) (length file - at) → size ≡ length old → length (take count (drop at file)) ≡ count → j < size
        → get_or (take count (drop at file) ++ zeros (size - count)) j 0 ≡ get_or file (at + j) 0
    place file old at count size j counted wide long under = elim (cases_lt j count) [
      | inl low ↦ get_or_append_left (take count (drop at file)) (replicate (size - count) 0) 0 j (omega (arith, low, long)) ∙ get_or-take count (drop at file) j 0 low ∙ get_or-drop at file j 0
      | inr high ↦
          get_or-append_right (take count (drop at file)) (zeros (size - count)) count j 0 long high ∙ zero_at (size - count) (j - count)
          ∙ sym (get_or_past file (at + j) 0 (omega (arith, counted, wide, high, under)))
    ]

-- what was written stands
pub written_fits : (old bytes : List ℕ) (at : ℕ) → at + length bytes ≤ length (after_write old at bytes)
unfolding zeros
written_fits old bytes at =
    let rest : List ℕ = drop (at + length bytes) old in
    omega (arith, length-append (take at old) (zeros (at - length old) ++ (bytes ++ rest)), length-append (zeros (at - length old)) (bytes ++ rest), length-append bytes rest, length-take at old, length-zeros (at - length old))

pub written_stands : (old bytes : List ℕ) (at : ℕ) → bytes_at (after_write old at bytes) at (length bytes) ≡ bytes
unfolding zeros
written_stands old bytes at =
    let gap : List ℕ = zeros (at - length old) in
    let rest : List ℕ = drop (at + length bytes) old in
    let front : length (take at old ++ gap) ≡ at = omega (arith, length-append (take at old) gap, length-take at old, length-zeros (at - length old)) in
    bytes_within (after_write old at bytes) at (length bytes) (written_fits old bytes at)
    ∙ ap (λ (l : List ℕ). take (length bytes) (drop at l)) (sym (append_assoc (take at old) gap (bytes ++ rest)))
    ∙ ap (take (length bytes)) (drop_at (take at old ++ gap) (bytes ++ rest) at front)
    ∙ take_at bytes rest (length bytes) refl
