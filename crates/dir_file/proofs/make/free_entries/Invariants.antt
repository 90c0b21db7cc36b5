use Rattle.std.proofs.Common.{◌≡◌, replicate, None}
use Rattle.dir_file.proofs.make.free_entries.Given as goal

abbrev pub invariant-loop : goal.invariant-loop
invariant-loop l = l.entries.items ≡ replicate l.counter None
