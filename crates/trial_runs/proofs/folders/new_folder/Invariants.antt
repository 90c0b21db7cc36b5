use Rattle.std.proofs.Common.{◌≡◌, vec_len}
use Rattle.trial_runs.proofs.folders.new_folder.Given as goal

abbrev pub invariant-loop : goal.invariant-loop
invariant-loop l = vec_len l.folder ≡ l.counter
