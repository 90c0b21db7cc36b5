use Rattle.std.proofs.Common.{◌≡◌, ℕ, ◌<◌, ◌≤◌, ◌/◌, ◌%◌, [], get_or, bit_xor}
use Rattle.gcm_mode.proofs.counter_mode.xor_last.Given as goal

abbrev pub invariant-loop-i : goal.invariant-loop-i
invariant-loop-i l = record {
  done : (k : ℕ) → k < l.i → get_or l.part k 0 ≡ bit_xor (get_or l.fn.part k 0) (get_or (get_or l.streams (k / 16) []) (k % 16) 0);
  left : (k : ℕ) → l.i ≤ k → get_or l.part k 0 ≡ get_or l.fn.part k 0;
}
