use Rattle.std.proofs.Common.{◌≡◌, ◌≤◌, ℕ, [], false}
use Rattle.history_seats.specs.Views.{no_mount}
use Rattle.history_seats.specs.Numbers.{is_in}
use Rattle.worked_calls.proofs.threads.split_callers.Given as goal

abbrev pub ghost-split_pass : goal.ghost-split_pass
ghost-split_pass g a = no_mount

abbrev pub invariant-loop-session : goal.invariant-loop-session
invariant-loop-session g l = record {
  table : l.gate.table ≡ g.L.TableName.table;
  all : l.gate.knows.all ≡ [];
  new : (n : ℕ) → l.session ≤ n → is_in n l.gate.knows.sessions ≡ false;
}
