use Rattle.std.proofs.Common.{◌≡◌, drop}
use Rattle.object_calls.specs.Generations.{generation_in}
use Rattle.object_calls.proofs.seat_splitting.generation_of.Given as goal

abbrev pub invariant-loop-index : goal.invariant-loop-index
invariant-loop-index g l = generation_in l.gate.dir.dir.entries l.file ≡ generation_in (drop l.index l.gate.dir.dir.entries) l.file
