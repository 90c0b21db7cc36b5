use Rattle.std.proofs.Common.{◌∷◌, []}
use Rattle.std.specs.Int.{bit_at}
use Rattle.aes_block.specs.SBox.{from_bits_of}
use Rattle.aes_block.proofs.ByteBits.{number}
use Rattle.aes_block.proofs.key_schedule.turned_planes.Goals as goal

pub returns-clause-value : goal.returns-clause-value
unfolding from_bits_of
returns-clause-value c = λ t j low lane.
    λ m. number (
    bit_at (c.turned_plane.ensures.value j lane m) t
    ∷ bit_at (c.turned_plane-2.ensures.value j lane m) t
    ∷ bit_at (c.turned_plane-3.ensures.value j lane m) t
    ∷ bit_at (c.turned_plane-4.ensures.value j lane m) t
    ∷ bit_at (c.turned_plane-5.ensures.value j lane m) t
    ∷ bit_at (c.turned_plane-6.ensures.value j lane m) t
    ∷ bit_at (c.turned_plane-7.ensures.value j lane m) t
    ∷ bit_at (c.turned_plane-8.ensures.value j lane m) t ∷ [])
