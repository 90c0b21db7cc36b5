use Rattle.std.proofs.Common.{◌≡◌, vec_len}
use Rattle.tee_run.proofs.folder_files.Given as goal

abbrev pub invariant-loop-number : goal.invariant-loop-number
invariant-loop-number g l = vec_len l.folder ≡ l.number
