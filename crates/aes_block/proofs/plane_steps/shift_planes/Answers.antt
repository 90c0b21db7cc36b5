use Rattle.std.proofs.Common.{ℕ, ◌≡◌, ◌<◌, ◌∷◌, [], slice_index, List}
use Rattle.std.specs.Int.{bit_at}
use Rattle.aes_block.specs.Planes.{byte_at, lane, shift_places}
use Rattle.aes_block.specs.SBox.{from_bits_of}
use Rattle.aes_block.proofs.ByteBits.{number}
use Rattle.aes_block.proofs.PackedBlocks.{shifted_block}
use Rattle.aes_block.proofs.plane_steps.shift_planes.Goals as goal

abbrev shifted : goal.After-shift_plane-8 → List (List ℕ)
shifted c =
    c.shift_plane.result ∷ c.shift_plane-2.result ∷ c.shift_plane-3.result ∷ c.shift_plane-4.result
    ∷ c.shift_plane-5.result ∷ c.shift_plane-6.result ∷ c.shift_plane-7.result ∷ c.shift_plane-8.result ∷ []

bytes : (c : goal.After-shift_plane-8) → (t j : ℕ) → j < 16 → byte_at (shifted c) t j ≡ byte_at c.args.x t (slice_index shift_places j)
unfolding from_bits_of
bytes c t j lane =
    λ m. number (
    bit_at (c.shift_plane.ensures.value j lane m) t
    ∷ bit_at (c.shift_plane-2.ensures.value j lane m) t
    ∷ bit_at (c.shift_plane-3.ensures.value j lane m) t
    ∷ bit_at (c.shift_plane-4.ensures.value j lane m) t
    ∷ bit_at (c.shift_plane-5.ensures.value j lane m) t
    ∷ bit_at (c.shift_plane-6.ensures.value j lane m) t
    ∷ bit_at (c.shift_plane-7.ensures.value j lane m) t
    ∷ bit_at (c.shift_plane-8.ensures.value j lane m) t ∷ [])

pub returns-clause-value : goal.returns-clause-value
returns-clause-value c = λ t low. shifted_block c.args.x (shifted c) t (bytes c t)
