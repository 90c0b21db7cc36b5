use Rattle.std.proofs.Common.{◌≡◌, ◌-◌, take}
use Rattle.std.specs.List.{sum_by}
use Rattle.quota_store.specs.CallerSessions.{CallerSession}
use Rattle.run_acts.proofs.done_calls.have_made.Given as goal

abbrev pub invariant-loop-session : goal.invariant-loop-session
invariant-loop-session g l = l.left ≡ l.calls - sum_by (λ (s : CallerSession g.row.E.Denot). s.made) (take l.session-index l.sessions)
