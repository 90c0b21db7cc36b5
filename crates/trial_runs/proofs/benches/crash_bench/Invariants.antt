use Rattle.std.proofs.Common.{◌≡◌, vec_len}
use Rattle.trial_runs.proofs.benches.crash_bench.Given as goal

abbrev pub invariant-loop-number : goal.invariant-loop-number
invariant-loop-number g l = vec_len l.bench.files ≡ vec_len l.fn.bench.files
