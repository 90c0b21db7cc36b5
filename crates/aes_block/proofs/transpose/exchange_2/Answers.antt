use Rattle.std.proofs.Common.{ℕ, ◌∷◌, [], refl, arith}
use Rattle.aes_block.specs.Planes.{lane}
use Rattle.aes_block.proofs.BitRows.{high_bits, low_bits}
use Rattle.aes_block.proofs.transpose.exchange_2.Goals as goal

pub returns-clause-value : goal.returns-clause-value
returns-clause-value c = λ j lt.
    let low = λ (p q y : ℕ). low_bits 2 0x33 (lane c.args.x p j) (lane c.args.x q j) y (omega arith) refl refl in
    let high = λ (p q y : ℕ). high_bits 2 0x33 (lane c.args.x p j) (lane c.args.x q j) y in
    λ i. low 0 2 _ (c.exchange.ensures.first j lt) i
    ∷ low 1 3 _ (c.exchange-2.ensures.first j lt) i
    ∷ high 0 2 _ (c.exchange.ensures.second j lt) i
    ∷ high 1 3 _ (c.exchange-2.ensures.second j lt) i
    ∷ low 4 6 _ (c.exchange-3.ensures.first j lt) i
    ∷ low 5 7 _ (c.exchange-4.ensures.first j lt) i
    ∷ high 4 6 _ (c.exchange-3.ensures.second j lt) i
    ∷ high 5 7 _ (c.exchange-4.ensures.second j lt) i ∷ []
