use Rattle.std.proofs.Common.{◌≡◌, ◌≤◌, ◌-◌, [], replicate, vec_len}
use Rattle.run_acts.specs.OwnQuotas.{lists_in}
use Rattle.run_acts.proofs.refused_call.empty_lists.Given as goal

abbrev pub invariant-loop-alloc : goal.invariant-loop-alloc
invariant-loop-alloc l = record {
  empty : lists_in l.lists.items ≡ replicate (vec_len l.lists) [];
  few : vec_len l.lists ≤ l.count;
}

abbrev pub decreases-loop-alloc : goal.decreases-loop-alloc
decreases-loop-alloc l = l.count - vec_len l.lists
