use Rattle.std.proofs.Common.{◌≡◌, vec_len}
use Rattle.store_bench.proofs.reads.empty_files.Given as goal

abbrev pub invariant-loop-i : goal.invariant-loop-i
invariant-loop-i l = vec_len l.files ≡ l._i
