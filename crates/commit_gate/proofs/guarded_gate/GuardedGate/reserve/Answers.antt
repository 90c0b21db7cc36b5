-- Room has no part in what is tied.
use Rattle.std.proofs.Common.{sym, subst}
use Rattle.history_seats.specs.Views.{GateView}
use Rattle.commit_gate.specs.GuardedGates.{GateInvariant}
use Rattle.commit_gate.proofs.Knowing.{roomy-guarded}
use Rattle.commit_gate.proofs.guarded_gate.GuardedGate.reserve.Goals as goal

pub invariant_of-self-2 : goal.invariant_of-self-2
invariant_of-self-2 g c =
    let store = g.L.StoreName.store in
    let inside = c.self.inside in
    subst (λ (k : GateView). GateInvariant store c.reserve-2.new.self k inside.closing) (sym c.in_ok-reserve.ensures.knows)
    (roomy-guarded store inside.gate c.reserve-2.new.self inside.journal.knows inside.closing c.reserve-2.ensures.handles c.reserve-2.ensures.same c.self.invariant)
