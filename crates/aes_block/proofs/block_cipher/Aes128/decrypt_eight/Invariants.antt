use Rattle.std.proofs.Common.{◌≡◌, ℕ, ◌<◌, []}
use Rattle.std.specs.Prelude.{slice_index_or}
use Rattle.aes_block.specs.InverseCipher.{inv_rounds}
use Rattle.aes_block.specs.RoundKeys.{first_key}
use Rattle.aes_block.specs.Planes.{ArePlanes, block_in}
use Rattle.aes_block.proofs.block_cipher.Aes128.decrypt_eight.Given as goal

abbrev pub invariant-inv_rounds : goal.invariant-inv_rounds
invariant-inv_rounds l = record {
  planes : ArePlanes l.x;
  held : (t : ℕ) → t < 8 → block_in l.x t ≡ inv_rounds (first_key l.self-inside.keys) (slice_index_or l.blocks t []) l.n;
}
