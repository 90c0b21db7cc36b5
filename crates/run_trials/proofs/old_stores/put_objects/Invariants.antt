use Rattle.std.proofs.Common.{◌≡◌, vec_len}
use Rattle.run_trials.proofs.old_stores.put_objects.Given as goal

abbrev pub invariant-loop-index : goal.invariant-loop-index
invariant-loop-index l = vec_len l.files ≡ vec_len l.fn.files
