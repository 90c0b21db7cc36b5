use Rattle.std.proofs.Common.{◌≡◌, ◌*◌}
use Rattle.aes_block.specs.Cipher.{cipher}
use Rattle.gcm_mode.specs.CounterMode.{counter_block, stream_byte}
use Rattle.gcm_mode.proofs.Writes.{IsAdded, IsLeft}
use Rattle.gcm_mode.proofs.counter_mode.apply_stream.Given as goal

abbrev pub invariant-groups : goal.invariant-groups
invariant-groups l = record {
  done : IsAdded (stream_byte (cipher l.key) l.first) l.fn.text l.text (128 * l.g);
  left : IsLeft l.fn.text l.text (128 * l.g);
  count : l.counter ≡ counter_block l.first (8 * l.g);
}
