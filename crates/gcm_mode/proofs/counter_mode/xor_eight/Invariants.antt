use Rattle.std.proofs.Common.{◌*◌, ◌/◌, ◌%◌, [], get_or}
use Rattle.gcm_mode.proofs.counter_mode.xor_eight.Given as goal
use Rattle.gcm_mode.proofs.Writes.{IsAdded, IsLeft}

abbrev pub invariant-loop-j : goal.invariant-loop-j
invariant-loop-j l = record {
  done : IsAdded (λ k. get_or (get_or l.streams (k / 16) []) (k % 16) 0) l.fn.part l.part (16 * l.j);
  left : IsLeft l.fn.part l.part (16 * l.j);
}
