use Rattle.std.proofs.Common.{◌≡◌, ◌-◌}
use Rattle.crash_core.specs.Entries.{first_double}
use Rattle.dir_file.proofs.records.first_double.Given as goal

abbrev pub invariant-loop-i : goal.invariant-loop-i
invariant-loop-i l = first_double l.entries 0 256 ≡ first_double l.entries l.i (256 - l.i)
