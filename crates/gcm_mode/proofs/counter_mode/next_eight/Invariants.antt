use Rattle.std.proofs.Common.{◌≡◌, ℕ, ◌<◌, [], get_or, length}
use Rattle.gcm_mode.specs.CounterMode.{counter_block}
use Rattle.gcm_mode.proofs.counter_mode.next_eight.Given as goal

abbrev pub invariant-loop-j : goal.invariant-loop-j
invariant-loop-j l = record {
  size : length l.made ≡ 8;
  done : (k : ℕ) → k < l.j → get_or l.made k [] ≡ counter_block l.fn.counter k;
  count : l.counter ≡ counter_block l.fn.counter l.j;
}
