use Rattle.shared_calls.specs.Devices.{DrawsOn}
use Rattle.shared_calls.specs.SessionEvents.{IsWaiting}
use Rattle.shared_store.proofs.store.SharedStore.call_from.Given as goal

abbrev pub invariant-loop : goal.invariant-loop
invariant-loop g l = record {
  waits : IsWaiting g.L.StoreName.store l.fn.session l.session;
  draws : DrawsOn g.E.Entropy.is_reliable g.E.Entropy.faults l.fn.session.entropy l.session.entropy;
}
