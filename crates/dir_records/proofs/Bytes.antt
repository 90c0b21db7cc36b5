-- Single bytes, and bytes that are all zero.
use Rattle.std.proofs.Common.{◌≡◌, ℕ, ◌+◌, ◌<◌, List, [], ◌∷◌, length, drop, get_or, replicate, true, ◌==◌, zero, suc, refl, sym, ap, ◌∙◌, arith}
use Rattle.std.proofs.lemmas.Bool.{eqb-true, and_parts}
use Rattle.std.proofs.lemmas.List.{get_or-drop, drop_more}
use Rattle.dir_records.specs.Layout.{byte}
use Rattle.dir_records.specs.Form.{is_free}

-- the byte that stands at an offset
pub byte_here : (bytes rest : List ℕ) (n x : ℕ) → drop n bytes ≡ x ∷ rest → byte n bytes ≡ x
byte_here bytes rest n x at =
    let here : n ≡ n + 0 = omega arith in
    ap (λ i. get_or bytes i 0) here ∙ sym (get_or-drop n bytes 0 0) ∙ ap (λ l. get_or l 0 0) at

-- a byte and what stands after it
pub byte-drop : (bytes : List ℕ) (n m : ℕ) → n < length bytes → n + 1 ≡ m → byte n bytes ∷ drop m bytes ≡ drop n bytes
byte-drop bytes n m inside next = ap (λ i. byte n bytes ∷ drop i bytes) (sym next) ∙ sym (drop_more bytes n 0 inside)

-- bytes that are all zero
pub zeros : (bytes : List ℕ) → is_free bytes ≡ true → bytes ≡ replicate (length bytes) 0
zeros [] all = refl
zeros (x ∷ bytes) all =
    let both = and_parts (x == 0) (is_free bytes) all in
    λ i. eqb-true x 0 both.0 i ∷ zeros bytes both.1 i

pub is_free-replicate : (n : ℕ) → is_free (replicate n 0) ≡ true
is_free-replicate zero = refl
is_free-replicate (suc n) = is_free-replicate n

-- each of them is zero
pub byte_of_zeros : (bytes : List ℕ) (n : ℕ) → is_free bytes ≡ true → byte n bytes ≡ 0
byte_of_zeros [] n all = refl
byte_of_zeros (x ∷ bytes) zero all = eqb-true x 0 (and_parts (x == 0) (is_free bytes) all).0
byte_of_zeros (x ∷ bytes) (suc n) all = byte_of_zeros bytes n (and_parts (x == 0) (is_free bytes) all).1
