use Rattle.std.proofs.Common.{◌≡◌, ◌-◌}
use Rattle.crash_core.specs.Entries.{first_like}
use Rattle.dir_file.proofs.records.first_like.Given as goal

abbrev pub invariant-loop-j : goal.invariant-loop-j
invariant-loop-j l = first_like l.entries l.entry 0 l.count ≡ first_like l.entries l.entry l.j (l.count - l.j)
