use Rattle.std.proofs.Common.{◌⊎◌, ℕ, ◌/◌, ◌<◌, ◌≤◌, IsTrue}
use Rattle.tree_paths.specs.Paths.{IsOnPath, holds}
use Rattle.tree_paths.specs.Staged.{IsAboveRemoved}
use Rattle.tree_paths.proofs.paths.add_remaining.Given as goal

abbrev pub invariant-loop-gone : goal.invariant-loop-gone
invariant-loop-gone l = record {
  kept : (m : ℕ) → IsTrue (holds l.initial.set m) → IsTrue (holds l.set m);
  above : (child : ℕ) → l.after < child → child ≤ l.gone → child / 2 ≤ l.after → (m : ℕ) → IsOnPath m (child / 2) → IsTrue (holds l.set m);
  only : (m : ℕ) → IsTrue (holds l.set m) → IsTrue (holds l.initial.set m) ⊎ IsAboveRemoved l.before l.after m;
}
