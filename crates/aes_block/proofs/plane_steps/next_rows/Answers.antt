use Rattle.std.proofs.Common.{◌∷◌, []}
use Rattle.std.specs.Int.{bit_at}
use Rattle.aes_block.specs.SBox.{from_bits_of}
use Rattle.aes_block.proofs.ByteBits.{number}
use Rattle.aes_block.proofs.plane_steps.next_rows.Goals as goal

pub returns-clause-value : goal.returns-clause-value
unfolding from_bits_of
returns-clause-value c = λ t j low lane.
    λ m. number (
    bit_at (c.next_row.ensures.value j lane m) t
    ∷ bit_at (c.next_row-2.ensures.value j lane m) t
    ∷ bit_at (c.next_row-3.ensures.value j lane m) t
    ∷ bit_at (c.next_row-4.ensures.value j lane m) t
    ∷ bit_at (c.next_row-5.ensures.value j lane m) t
    ∷ bit_at (c.next_row-6.ensures.value j lane m) t
    ∷ bit_at (c.next_row-7.ensures.value j lane m) t
    ∷ bit_at (c.next_row-8.ensures.value j lane m) t ∷ [])
