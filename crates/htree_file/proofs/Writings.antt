-- Runs of writes, one after the other.
use Rattle.std.proofs.Common.{ℕ, ◌+◌, ◌≤◌, ◌∙◌, refl, arith}
use Rattle.disk_model.specs.State.{FileState}
use Rattle.disk_model.proofs.Laws.{keeps_fewer, keeps_none, keeps_then}
use Rattle.htree_file.specs.Staging.{WritesAtMost}

pub writes_none : (K : ℕ → Type 0) (s : FileState) → WritesAtMost K 0 s s
writes_none K s = record { keeps = keeps_none K s; written = omega arith; pending_from = refl }

pub writes_within : (K L : ℕ → Type 0) (few most : ℕ) (a b : FileState) → few ≤ most → ((p : ℕ) → L p → K p) → WritesAtMost K few a b → WritesAtMost L most a b
writes_within K L few most a b le fewer writes = record {
  keeps = keeps_fewer K L a b fewer writes.keeps;
  written = omega (arith, writes.written, le);
  pending_from = writes.pending_from;
}

pub writes_then : (K : ℕ → Type 0) (a b c : FileState) (m n most : ℕ) → m + n ≤ most → WritesAtMost K m a b → WritesAtMost K n b c → WritesAtMost K most a c
writes_then K a b c m n most le first second = record {
  keeps = keeps_then K a b c first.keeps second.keeps;
  written = omega (arith, first.written, second.written, le);
  pending_from = second.pending_from ∙ first.pending_from;
}
