use Rattle.std.proofs.Common.{◌∷◌, []}
use Rattle.std.specs.Int.{bit_at}
use Rattle.aes_block.specs.SBox.{from_bits_of}
use Rattle.aes_block.proofs.ByteBits.{number}
use Rattle.aes_block.proofs.key_schedule.next_columns.Goals as goal

pub returns-clause-first : goal.returns-clause-first
unfolding from_bits_of
returns-clause-first c = λ t j low lt.
    λ m. number (
    bit_at (c.next_column.ensures.first j lt m) t
    ∷ bit_at (c.next_column-2.ensures.first j lt m) t
    ∷ bit_at (c.next_column-3.ensures.first j lt m) t
    ∷ bit_at (c.next_column-4.ensures.first j lt m) t
    ∷ bit_at (c.next_column-5.ensures.first j lt m) t
    ∷ bit_at (c.next_column-6.ensures.first j lt m) t
    ∷ bit_at (c.next_column-7.ensures.first j lt m) t
    ∷ bit_at (c.next_column-8.ensures.first j lt m) t ∷ [])

pub returns-clause-rest : goal.returns-clause-rest
unfolding from_bits_of
returns-clause-rest c = λ t j low lt.
    λ m. number (
    bit_at (c.next_column.ensures.rest j lt m) t
    ∷ bit_at (c.next_column-2.ensures.rest j lt m) t
    ∷ bit_at (c.next_column-3.ensures.rest j lt m) t
    ∷ bit_at (c.next_column-4.ensures.rest j lt m) t
    ∷ bit_at (c.next_column-5.ensures.rest j lt m) t
    ∷ bit_at (c.next_column-6.ensures.rest j lt m) t
    ∷ bit_at (c.next_column-7.ensures.rest j lt m) t
    ∷ bit_at (c.next_column-8.ensures.rest j lt m) t ∷ [])
