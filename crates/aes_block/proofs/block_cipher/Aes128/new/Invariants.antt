use Rattle.std.proofs.Common.{◌≡◌, ℕ, ◌<◌, ◌+◌, length}
use Rattle.aes_block.specs.RoundKeys.{IsRoundKey, key_at}
use Rattle.aes_block.proofs.block_cipher.Aes128.new.Given as goal

abbrev pub invariant-expand : goal.invariant-expand
invariant-expand l = record {
  long : length l.keys ≡ 11;
  made : (k : ℕ) → k < l.n + 1 → IsRoundKey l.key k (key_at l.keys k);
  last : IsRoundKey l.key l.n (record { planes = l.x });
}
