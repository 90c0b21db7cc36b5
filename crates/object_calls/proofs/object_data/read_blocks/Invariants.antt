use Rattle.object_calls.proofs.Blocks.{ReadsBlocks}
use Rattle.object_calls.proofs.object_data.read_blocks.Given as goal

abbrev pub invariant-loop-k : goal.invariant-loop-k
invariant-loop-k g l = ReadsBlocks g.F.StoreFile.state l.fn.object l.object l.k l.bytes l.bad
