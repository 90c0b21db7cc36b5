-- The session holds a file then.
use Rattle.shared_calls.proofs.SharedHolds.{keeps-held}
use Rattle.shared_calls.proofs.create_call.validate_for_file.Goals as goal

pub invariant_of-gate : goal.invariant_of-gate
invariant_of-gate g c =
    keeps-held g.F.StoreFile.state g.R.RpmbPort.state g.L.StoreName.store g.L.DevicesName.devices c.gate.inside.gate c.gate.invariant c.reserve.new.gate _ c.reserve.ensures.same
