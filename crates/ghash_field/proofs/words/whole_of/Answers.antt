use Rattle.std.proofs.Common.{◌/◌, ◌%◌, ◌^◌, sym, ◌∙◌, arith}
use Rattle.ghash_field.specs.Words.{joined, whole_of}
use Rattle.ghash_field.proofs.Halves.{joined-high, joined-low}
use Rattle.ghash_field.proofs.words.whole_of.Goals as goal

pub returns-clause-high : goal.returns-clause-high
unfolding whole_of
returns-clause-high c =
    let low = c.joined-low.result in
    let high = c.joined-high.result in
    let both = c.joined-both.result in
    sym (joined-high low high both (omega arith))
    ∙ (λ i. joined 64 (c.joined-low.ensures i) (c.joined-high.ensures i) (c.joined-both.ensures i) / 2 ^ 128)

pub returns-clause-low : goal.returns-clause-low
unfolding whole_of
returns-clause-low c =
    let low = c.joined-low.result in
    let high = c.joined-high.result in
    let both = c.joined-both.result in
    sym (joined-low low high both (omega arith))
    ∙ (λ i. joined 64 (c.joined-low.ensures i) (c.joined-high.ensures i) (c.joined-both.ensures i) % 2 ^ 128)
