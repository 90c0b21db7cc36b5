use Rattle.std.proofs.Common.{◌≡◌, ℕ, ◌<◌, get_or}
use Rattle.run_acts.proofs.memory_failures.had_memory.Given as goal

abbrev pub invariant-loop-index : goal.invariant-loop-index
invariant-loop-index g l = (k : ℕ) (d : g.row.F.Denot) → k < l.index → (g.F.StoreFile.state (get_or l.files k d)).starved ≡ get_or l.before k 0
