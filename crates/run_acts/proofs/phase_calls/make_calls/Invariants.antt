use Rattle.std.proofs.Common.{take}
use Rattle.object_calls.specs.OpeningSessions.{AreSeated}
use Rattle.run_acts.specs.MadeCalls.{MakesCalls}
use Rattle.run_acts.specs.Reliable.{StayReliable}
use Rattle.run_acts.proofs.phase_calls.make_calls.Given as goal

abbrev pub invariant-loop-step : goal.invariant-loop-step
invariant-loop-step g l = record {
  made : MakesCalls g.F.StoreFile.state g.R.RpmbPort.state g.E.Entropy.faults g.L.StoreName.store l.initial.service l.service l.initial.sessions l.sessions (take l.step-index l.calls);
  seated : AreSeated g.L.StoreName.store l.sessions;
  reliable : StayReliable g.E.Entropy.is_reliable g.E.Entropy.faults l.initial.sessions l.sessions;
}
