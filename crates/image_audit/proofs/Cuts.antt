-- What stands where in joined bytes.
use Rattle.std.proofs.Common.{◌≡◌, ℕ, zero, suc, ◌+◌, ◌*◌, ◌<◌, List, [], ◌∷◌, ◌++◌, length, get_or, drop, refl, ap, ◌∙◌, length-append, append_assoc, arith}
use Rattle.byte_fields.specs.Field.{field}
use Rattle.byte_fields.proofs.Fields.{field_here, rest_after}
use Rattle.image_audit.specs.Auditing.{joined}

pub joined_at : (bytes : List ℕ) (xs : List (List ℕ)) (rest : List ℕ) (n w : ℕ) → ((i : ℕ) → i < length xs → length (get_or xs i []) ≡ w) → drop n bytes ≡ joined xs ++ rest
    → (i : ℕ) → i < length xs → field (n + w * i) w bytes ≡ get_or xs i []
joined_at bytes [] rest n w long is i lt = absurd (omega arith)
joined_at bytes (x ∷ xs) rest n w long is zero lt =
    ap (λ (m : ℕ). field m w bytes) (let e : n + w * 0 ≡ n = grind arith in e)
    ∙ field_here bytes x (joined xs ++ rest) n w (is ∙ append_assoc x (joined xs) rest) (long 0 (omega arith))
joined_at bytes (x ∷ xs) rest n w long is (suc i) lt =
    ap (λ (m : ℕ). field m w bytes) (let e : n + w * suc i ≡ (n + w) + w * i = grind arith in e)
    ∙ joined_at bytes xs rest (n + w) w (λ j low. long (suc j) (omega (arith, low))) (rest_after bytes x (joined xs ++ rest) n w (n + w) (is ∙ append_assoc x (joined xs) rest) (long 0 (omega arith)) refl) i (omega (arith, lt))

pub length-joined : (xs : List (List ℕ)) (w : ℕ) → ((i : ℕ) → i < length xs → length (get_or xs i []) ≡ w) → length (joined xs) ≡ w * length xs
length-joined [] w long = grind arith
length-joined (x ∷ xs) w long =
    length-append x (joined xs) ∙ (λ j. (long 0 (omega arith)) j + length-joined xs w (λ i lt. long (suc i) (omega (arith, lt))) j) ∙ (let e : w + w * length xs ≡ w * suc (length xs) = grind arith in e)
