use Rattle.std.proofs.Common.{◌≡◌, vec_len}
use Rattle.kept_store.proofs.reading.read_files.Given as goal

abbrev pub invariant-loop-number : goal.invariant-loop-number
invariant-loop-number g l = vec_len l.files ≡ l.number
