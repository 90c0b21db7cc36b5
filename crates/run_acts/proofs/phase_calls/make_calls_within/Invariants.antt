use Rattle.std.proofs.Common.{◌≡◌, length, take}
use Rattle.app_quota.specs.Quotas.{limit_of}
use Rattle.object_calls.specs.OpeningSessions.{AreSeated}
use Rattle.run_acts.specs.OwnQuotas.{lists_in}
use Rattle.run_acts.specs.QuotaCalls.{MakesCallsWithin}
use Rattle.run_acts.specs.Reliable.{StayReliable}
use Rattle.run_acts.proofs.phase_calls.make_calls_within.Given as goal

abbrev pub invariant-loop-number : goal.invariant-loop-number
invariant-loop-number g l = record {
  made : MakesCallsWithin g.F.StoreFile.state g.R.RpmbPort.state g.E.Entropy.faults g.L.StoreName.store (limit_of l.quotas) l.initial.service l.service l.initial.sessions l.sessions
      (take l.number l.calls) (lists_in l.refused);
  seated : AreSeated g.L.StoreName.store l.sessions;
  reliable : StayReliable g.E.Entropy.is_reliable g.E.Entropy.faults l.initial.sessions l.sessions;
  listed : length l.refused ≡ length l.sessions;
}
