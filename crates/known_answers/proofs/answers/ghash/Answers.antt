use Rattle.std.proofs.Common.{ℕ, List, [], ◌∷◌, map, take, get_or, sym, subst, ap, ◌∙◌}
use Rattle.std.specs.Int.{w128, from_be_bytes, to_be_bytes}
use Rattle.std.proofs.lemmas.List.{map-append, take_more, take_all}
use Rattle.ghash_field.specs.Ghash.{ghash}
use Rattle.ghash_field.specs.Hasher.{Holds}
use Rattle.known_answers.proofs.answers.ghash.Goals as goal

pub loop-block-init : goal.loop-block-init
loop-block-init c = subst (λ h. Holds c.new-hash.result h []) c.from_be_bytes.ensures c.new-hash.ensures

pub loop-block-preserved : goal.loop-block-preserved
loop-block-preserved c =
    let i : ℕ = c.loop-block.block-index in
    let blocks : List (List ℕ) = c.args.blocks.now in
    let number : List ℕ → ℕ = from_be_bytes w128 in
    let h : ℕ = number c.args.subkey.now in
    subst (Holds c.update.new.self h)
    (sym (ap (map number) (take_more blocks i [] c.loop-block-test.true) ∙ map-append number (take i blocks) (get_or blocks i [] ∷ [])))
    (c.update.ensures h (map number (take i blocks)) c.loop-block.invariant)

pub returns : goal.returns
returns c =
    let blocks : List (List ℕ) = c.args.blocks.now in
    let number : List ℕ → ℕ = from_be_bytes w128 in
    let h : ℕ = number c.args.subkey.now in
    c.finish.ensures h (map number (take c.loop-block.block-index blocks)) c.loop-block.invariant
    ∙ ap (λ bs. to_be_bytes w128 (ghash h (map number bs))) (take_all c.loop-block.block-index blocks c.loop-block-test.false)
