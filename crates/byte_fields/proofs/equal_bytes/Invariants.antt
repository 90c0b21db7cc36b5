use Rattle.byte_fields.proofs.EqualBytes.{NoneDiffers}
use Rattle.byte_fields.proofs.equal_bytes.Given as goal

abbrev pub invariant-loop-i : goal.invariant-loop-i
invariant-loop-i g l = NoneDiffers l.a l.b l.i l.differ
