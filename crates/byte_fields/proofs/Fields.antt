-- Fields and their places among bytes.
use Rattle.std.proofs.Common.{◌≡◌, ℕ, ◌+◌, ◌<◌, ◌≤◌, List, ◌++◌, length, get_or, take, drop, sym, ap, subst, ◌∙◌, inl, inr, arith, length-drop}
use Rattle.std.proofs.lemmas.Bool.{cases_lt}
use Rattle.std.proofs.lemmas.List.{append_assoc, drop-drop, drop_at, length-take-le, length-append, take-append-drop, take_at, get_or_past, get_or-drop, get_or-take}
use Rattle.byte_fields.specs.Field.{field}

-- the field that stands at an offset
pub field_here : (bytes f rest : List ℕ) (n k : ℕ) → drop n bytes ≡ f ++ rest → length f ≡ k → field n k bytes ≡ f
field_here bytes f rest n k at len = ap (take k) at ∙ take_at f rest k len

-- k bytes on from the offset n
drop-on : (bytes : List ℕ) (n k m : ℕ) → n + k ≡ m → drop k (drop n bytes) ≡ drop m bytes
drop-on bytes n k m all = drop-drop k n bytes ∙ ap (λ i. drop i bytes) all

-- what stands after the field at an offset
pub rest_after : (bytes f rest : List ℕ) (n k m : ℕ) → drop n bytes ≡ f ++ rest → length f ≡ k → n + k ≡ m → drop m bytes ≡ rest
rest_after bytes f rest n k m at len all = sym (drop-on bytes n k m all) ∙ ap (drop k) at ∙ drop_at f rest k len

-- a field and what stands after it
pub field-append-drop : (bytes : List ℕ) (n k m : ℕ) → n + k ≡ m → field n k bytes ++ drop m bytes ≡ drop n bytes
field-append-drop bytes n k m all =
    ap (λ z. field n k bytes ++ z) (sym (drop-on bytes n k m all)) ∙ take-append-drop k (drop n bytes)

pub length-field : (bytes : List ℕ) (n k : ℕ) → n + k ≤ length bytes → length (field n k bytes) ≡ k
length-field bytes n k fits = length-take-le k (drop n bytes) (omega (arith, length-drop n bytes))

-- a byte of a field is a byte of the whole
pub field_byte : (bytes : List ℕ) (n k : ℕ) → n + k ≤ length bytes → ((i : ℕ) → get_or bytes i 0 < 256) → (i : ℕ) → get_or (field n k bytes) i 0 < 256
field_byte bytes n k fits low i = elim (cases_lt i k) [
  | inl lt ↦ subst (λ x. x < 256) (sym (get_or-take k (drop n bytes) i 0 lt ∙ get_or-drop n bytes i 0)) (low (n + i))
  | inr ge ↦ subst (λ x. x < 256) (sym (get_or_past (field n k bytes) i 0 (omega (arith, length-field bytes n k fits)))) (omega arith)
]

-- the bytes up to the end of a field that was put at the offset n
pub take-put : (before after f tail : List ℕ) (n m : ℕ) → after ≡ take n before ++ (f ++ drop (n + length f) before)
    → n ≤ length before → n + length f ≡ m → take m after ++ tail ≡ take n before ++ (f ++ tail)
take-put before after f tail n m e fits all =
    let front : List ℕ = take n before in
    let rest : List ℕ = drop (n + length f) before in
    let len : length (front ++ f) ≡ m = length-append front f ∙ ap (λ i. i + length f) (length-take-le n before fits) ∙ all in
    ap (λ z. take m z ++ tail) (e ∙ sym (append_assoc front f rest))
    ∙ ap (λ z. z ++ tail) (take_at (front ++ f) rest m len)
    ∙ append_assoc front f tail

-- the bytes up to the end of the first field
pub take-first : (after f rest tail : List ℕ) (m : ℕ) → after ≡ f ++ rest → length f ≡ m → take m after ++ tail ≡ f ++ tail
take-first after f rest tail m e len = ap (λ z. take m z ++ tail) e ∙ ap (λ z. z ++ tail) (take_at f rest m len)
