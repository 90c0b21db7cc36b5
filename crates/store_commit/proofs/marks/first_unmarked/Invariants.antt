use Rattle.std.specs.Prelude.{◌≡◌, ◌<◌, ◌≤◌, ℕ, true}
use Rattle.store_commit.specs.Marks.{is_marked}
use Rattle.store_commit.proofs.marks.first_unmarked.Given as goal

abbrev pub invariant-loop-file : goal.invariant-loop-file
invariant-loop-file l = (other : ℕ) → 1 ≤ other → other < l.file → is_marked l.marks other ≡ true
