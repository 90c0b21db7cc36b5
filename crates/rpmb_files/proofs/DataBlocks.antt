-- A block of data among the bytes of an object.
use Rattle.std.proofs.Common.{◌≡◌, ℕ, ◌+◌, ◌-◌, List, [], ◌++◌, length, take, drop, replicate, sym, ap, ◌∙◌, inl, inr, arith}
use Rattle.std.specs.Prelude.{min}
use Rattle.std.proofs.lemmas.Bool.{cases_lt}
use Rattle.std.proofs.lemmas.List.{drop-replicate, drop_all, length-drop, take_all}
use Rattle.byte_fields.specs.Field.{with_field}
use Rattle.card_maps.specs.Plans.{filled}

-- so many bytes from a place on, or those that there are
part_is : (bytes : List ℕ) (k start end : ℕ) → start ≡ min k (length bytes) → end ≡ min (start + 256) (length bytes) → take (end - start) (drop start bytes) ≡ take 256 (drop k bytes)
part_is bytes k start end first last = elim (cases_lt k (length bytes)) [
  | inr past ↦
      let none : drop k bytes ≡ [] = drop_all k bytes past in
      let whole : start ≡ length bytes = omega (arith, first, past) in
      let width : end - start ≡ 0 = omega (arith, first, last, past) in
      ap (λ (n : ℕ). take n (drop start bytes)) width ∙ sym (ap (take 256) none)
  | inl within ↦
      let same : start ≡ k = omega (arith, first, within) in
      let long : length (drop k bytes) ≡ length bytes - k = length-drop k bytes in
      ap (λ (n : ℕ). take (end - start) (drop n bytes)) same ∙ (elim (cases_lt 256 (length bytes - k)) [
        | inl more ↦ ap (λ (n : ℕ). take n (drop k bytes)) (let e : end - start ≡ 256 = omega (arith, first, last, within, more) in e)
        | inr few ↦
            take_all (end - start) (drop k bytes) (omega (arith, first, last, within, few, long))
            ∙ sym (take_all 256 (drop k bytes) (omega (arith, few, long)))
      ])
]

pub filled_is : (bytes block : List ℕ) (k start end : ℕ) → start ≡ min k (length bytes) → end ≡ min (start + 256) (length bytes)
    → block ≡ with_field 0 (take (end - start) (drop start bytes)) (replicate 256 0) → block ≡ filled (drop k bytes)
filled_is bytes block k start end first last is =
    let part : take (end - start) (drop start bytes) ≡ take 256 (drop k bytes) = part_is bytes k start end first last in
    is ∙ ap (λ (p : List ℕ). with_field 0 p (replicate 256 0)) part
    ∙ ap (λ (n : ℕ). take 256 (drop k bytes) ++ drop n (replicate 256 0)) (let e : 0 + length (take 256 (drop k bytes)) ≡ length (take 256 (drop k bytes)) = omega arith in e)
    ∙ ap (λ (l : List ℕ). take 256 (drop k bytes) ++ l) (drop-replicate (length (take 256 (drop k bytes))) 256 0)
