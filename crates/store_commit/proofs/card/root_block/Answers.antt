use Rattle.std.proofs.Common.{◌≡◌, ◌∙◌, ◌+◌, ℕ, List, [], ◌∷◌, ◌++◌, length, take, drop, replicate, ap, arith}
use Rattle.std.specs.Int.{w16, to_be_bytes}
use Rattle.byte_fields.specs.Field.{with_field}
use Rattle.crash_core.specs.CardBlock.{directory_bytes, root_block}
use Rattle.store_commit.proofs.card.root_block.Goals as goal

pub returns : goal.returns
unfolding root_block
returns c =
    let root = c.args.root.now in
    let hash : List ℕ = root.hash in
    let long : length hash ≡ 32 = omega arith in
    let number : List ℕ = directory_bytes root.format in
    let number_is : c.to_be_bytes.result ≡ number = c.to_be_bytes.ensures ∙ ap (to_be_bytes w16) c.directory_at.ensures in
    let zero : List ℕ = with_field 0 (root.format ∷ root.version ∷ []) (replicate 256 0) in
    let first : List ℕ = with_field 2 number zero in
    c.put-3.ensures
    ∙ ap (with_field 4 hash) (c.put-2.ensures ∙ (λ i. with_field 2 (number_is i) (c.put.ensures i)))
    ∙ ap (λ (n : ℕ). take 4 first ++ (hash ++ drop (4 + n) first)) long
