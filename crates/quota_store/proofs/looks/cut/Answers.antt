use Rattle.std.proofs.Common.{sym, subst}
use Rattle.shared_store.specs.GuardedGates.{GuardedGateValue}
use Rattle.shared_store.specs.Kept.{KeepsGate}
use Rattle.quota_store.proofs.KeptSeats.{cut_puts}
use Rattle.quota_store.proofs.looks.cut.Goals as goal

pub invariant_of-gate : goal.invariant_of-gate
invariant_of-gate g c =
    subst (λ (x : GuardedGateValue g.row.F.Denot g.row.R.Denot). KeepsGate g.F.StoreFile.state g.R.RpmbPort.state g.L.StoreName.store g.L.DevicesName.devices x) (sym c.cut-one.ensures.same) c.gate.invariant

pub returns-clause-kept : goal.returns-clause-kept
returns-clause-kept g c =
    cut_puts g.L.StoreName.store c.args.session.now c.cut-one.result.one c.cut-one.result.other c.requires.caller c.cut-one.ensures.one c.cut-one.ensures.other c.args.kept.now.items c.put_half.new.kept.items
    c.put_half.ensures
