-- Bytes after a write into them.
use Rattle.std.proofs.Common.{◌≡◌, ◌+◌, ◌-◌, ℕ, List, [], ◌∷◌, ◌++◌, length, take, drop, replicate, ap, sym, ◌∙◌, arith, suc, zero}
use Rattle.std.proofs.Math.Seq.{take-nil, drop-nil}
use Rattle.std.proofs.lemmas.List.{append_assoc, append-nil, take-replicate, drop-replicate}
use Rattle.store_model.specs.Data.{written}

-- zero bytes up to the end of the write, cut at its position: those up to the position
take-zeros : (old : List ℕ) (position count : ℕ) → take position (old ++ replicate (position + count - length old) 0) ≡ take position old ++ replicate (position - length old) 0
take-zeros [] position count =
    let rest : position ≡ position - 0 = omega arith in
    take-replicate position (position + count - 0) 0 (omega arith)
    ∙ ap (λ l. l ++ replicate position 0) (sym (take-nil position))
    ∙ ap (λ n. take position [] ++ replicate n 0) rest
take-zeros (x ∷ old) zero count =
    let none : 0 ≡ 0 - length (x ∷ old) = omega arith in
    ap (λ n. replicate n 0) none
take-zeros (x ∷ old) (suc position) count =
    let long : suc position + count - length (x ∷ old) ≡ position + count - length old = omega arith in
    let short : position - length old ≡ suc position - length (x ∷ old) = omega arith in
    ap (λ n. x ∷ take position (old ++ replicate n 0)) long
    ∙ ap (λ l. x ∷ l) (take-zeros old position count)
    ∙ ap (λ n. x ∷ (take position old ++ replicate n 0)) short

-- past the end of the write there are none
drop-zeros : (old : List ℕ) (end : ℕ) → drop end (old ++ replicate (end - length old) 0) ≡ drop end old
drop-zeros [] end =
    let none : end - 0 - end ≡ 0 = omega arith in
    drop-replicate end (end - 0) 0 ∙ ap (λ n. replicate n 0) none ∙ sym (drop-nil end)
drop-zeros (x ∷ old) zero =
    let none : 0 - length (x ∷ old) ≡ 0 = omega arith in
    ap (λ n. (x ∷ old) ++ replicate n 0) none ∙ append-nil (x ∷ old)
drop-zeros (x ∷ old) (suc end) =
    let same : suc end - length (x ∷ old) ≡ end - length old = omega arith in
    ap (λ n. drop end (old ++ replicate n 0)) same ∙ drop-zeros old end

pub written-reached : (old : List ℕ) (position : ℕ) (bytes : List ℕ) →
    take position (old ++ replicate (position + length bytes - length old) 0) ++ (bytes ++ drop (position + length bytes) (old ++ replicate (position + length bytes - length old) 0))
    ≡ written old position bytes
written-reached old position bytes =
    ap (λ l. l ++ (bytes ++ drop (position + length bytes) (old ++ replicate (position + length bytes - length old) 0))) (take-zeros old position (length bytes))
    ∙ ap (λ l. (take position old ++ replicate (position - length old) 0) ++ (bytes ++ l)) (drop-zeros old (position + length bytes))
    ∙ sym (append_assoc (take position old ++ replicate (position - length old) 0) bytes (drop (position + length bytes) old))
