use Rattle.std.proofs.Common.{◌≡◌, vec_len}
use Rattle.kept_trials.proofs.devices.files_of.Given as goal

abbrev pub invariant-loop-number : goal.invariant-loop-number
invariant-loop-number l = vec_len l.files ≡ l.number
