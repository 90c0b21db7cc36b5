use Rattle.ghash_field.proofs.mul.Given as goal
use Rattle.ghash_field.proofs.BitSteps.{IsProductBelow, IsShifted}

abbrev pub invariant-loop-i : goal.invariant-loop-i
invariant-loop-i l = record {
  product : IsProductBelow l.a l.b l.sum l.i;
  multiple : IsShifted l.b l.multiple l.i;
}
