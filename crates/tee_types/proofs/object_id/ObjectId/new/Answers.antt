use Rattle.std.proofs.Common.{arith}
use Rattle.tee_types.specs.Identifier.{IsPadded-copy}
use Rattle.tee_types.proofs.object_id.ObjectId.new.Goals as goal

pub invariant_of-result : goal.invariant_of-result
invariant_of-result c = rw c.copy_from_slice.ensures.after (IsPadded-copy c.args.bytes.now (omega arith, omega arith))
