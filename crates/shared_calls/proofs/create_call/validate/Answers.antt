-- The session gave its file back.
use Rattle.shared_calls.proofs.SharedHolds.{keeps-held}
use Rattle.shared_calls.proofs.create_call.validate.Goals as goal

pub invariant_of-gate : goal.invariant_of-gate
invariant_of-gate g c =
    keeps-held g.F.StoreFile.state g.R.RpmbPort.state g.L.StoreName.store g.L.DevicesName.devices c.gate.inside.gate c.gate.invariant c.give_back.new.gate _ c.give_back.ensures
