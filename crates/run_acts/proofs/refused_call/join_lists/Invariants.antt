use Rattle.std.proofs.Common.{◌≡◌, take}
use Rattle.run_acts.specs.OwnQuotas.{all_in, lists_in}
use Rattle.run_acts.proofs.refused_call.join_lists.Given as goal

abbrev pub invariant-loop-list : goal.invariant-loop-list
invariant-loop-list l = l.calls.items ≡ all_in (lists_in (take l.list-index l.lists))
