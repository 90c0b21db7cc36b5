use Rattle.std.proofs.Common.{ap, ◌∙◌}
use Rattle.aes_block.specs.BitMatrix.{exchanged}
use Rattle.aes_block.proofs.BitRows.{transposed_lane}
use Rattle.aes_block.proofs.transpose.transpose.Goals as goal

pub returns-clause-value : goal.returns-clause-value
returns-clause-value c = λ i j low lt.
    let e = c.exchange_4.ensures.value j lt ∙ ap (exchanged 4) (c.exchange_2.ensures.value j lt ∙ ap (exchanged 2) (c.exchange_1.ensures.value j lt)) in
    transposed_lane c.args.x c.exchange_4.result j e (λ k small. c.exchange_4.ensures.bytes k j small lt) i low
