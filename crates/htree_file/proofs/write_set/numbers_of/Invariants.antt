use Rattle.std.proofs.Common.{◌≡◌, ℕ, ◌<◌, get_or, length}
use Rattle.htree_file.specs.Changes.{block_at, changes_of}
use Rattle.htree_file.proofs.write_set.numbers_of.Given as goal

abbrev pub invariant-loop-j : goal.invariant-loop-j
invariant-loop-j l = record {
  wide : length l.numbers ≡ 256;
  each : (i : ℕ) → i < l.j → get_or l.numbers i 0 ≡ block_at (changes_of l.pages) i;
}
