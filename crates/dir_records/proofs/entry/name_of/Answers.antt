use Rattle.std.proofs.Common.{◌≡◌, ℕ, ◌+◌, ◌++◌, length, drop, replicate, ap, ◌∙◌, arith}
use Rattle.std.proofs.lemmas.List.{drop-replicate}
use Rattle.tee_types.specs.Identifier.{padded}
use Rattle.dir_records.proofs.entry.name_of.Goals as goal

pub returns : goal.returns
returns c =
    let n : ℕ = length c.bytes.result.now in
    let from_start : 0 + n ≡ n = omega arith in
    c.put.ensures
    ∙ ap (λ z. c.bytes.result.now ++ z) (ap (λ k. drop k (replicate 64 0)) from_start ∙ drop-replicate n 64 0)
    ∙ ap padded c.bytes.ensures.value
