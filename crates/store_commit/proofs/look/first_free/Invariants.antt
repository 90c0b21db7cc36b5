use Rattle.std.specs.Prelude.{◌<◌, ℕ, IsSome}
use Rattle.crash_core.specs.EntryLists.{entry_at}
use Rattle.store_commit.proofs.look.first_free.Given as goal

abbrev pub invariant-loop-index : goal.invariant-loop-index
invariant-loop-index l = (i : ℕ) → i < l.index → IsSome (entry_at l.entries i)
