use Rattle.std.proofs.Common.{◌≡◌, take}
use Rattle.object_calls.specs.OpeningSessions.{AreUnseated}
use Rattle.run_acts.specs.Reliable.{AreFresh, AreReliable}
use Rattle.run_acts.proofs.sessions.open_sessions.Given as goal

abbrev pub invariant-loop-index : goal.invariant-loop-index
invariant-loop-index g l = record {
  opened : l.opening ≡ record l.initial.opening { applications = take l.index l.applications };
  sessions : AreUnseated (take l.index l.applications) l.sessions.items;
  fresh : AreFresh g.E.Entropy.faults l.sessions.items;
  reliable : g.E.Entropy.is_reliable l.entropy → AreReliable g.E.Entropy.is_reliable l.sessions.items;
}
