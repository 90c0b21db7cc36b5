use Rattle.std.proofs.Common.{◌≡◌, vec_len}
use Rattle.tee_types.specs.Limits.{file_count}
use Rattle.folder_trials.proofs.exports.untold.Given as goal

abbrev pub invariant-loop-place : goal.invariant-loop-place
invariant-loop-place g l = vec_len l.bench.files ≡ file_count
