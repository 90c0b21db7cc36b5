use Rattle.std.proofs.Common.{◌∙◌, refl, sym, subst}
use Rattle.shared_store.specs.GuardedGates.{GuardedGateValue}
use Rattle.shared_store.specs.Kept.{KeepsGate}
use Rattle.quota_store.proofs.KeptSeats.{half_session, half_table}
use Rattle.quota_store.proofs.looks.join.Goals as goal

pub join-requires-clause-tables : goal.join-requires-clause-tables
join-requires-clause-tables g c = (half_table g.L.StoreName.store _ c.args.seat.one c.requires.caller refl, c.requires.other.table)

pub join-requires-clause-number : goal.join-requires-clause-number
join-requires-clause-number g c = c.requires.other.own ∙ sym (half_session g.L.StoreName.store _ c.args.seat.one c.requires.caller refl)

pub invariant_of-gate : goal.invariant_of-gate
invariant_of-gate g c =
    subst (λ (x : GuardedGateValue g.row.F.Denot g.row.R.Denot). KeepsGate g.F.StoreFile.state g.R.RpmbPort.state g.L.StoreName.store g.L.DevicesName.devices x) (sym c.join.ensures.same) c.gate.invariant
