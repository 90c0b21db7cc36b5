-- The gate keeps what always holds of its devices, whatever the forecast did alone.
use Rattle.shared_calls.proofs.ForeseenCalls.{drawn-forecast, ends-forecast, keeps-forecast, starves-forecast}
use Rattle.shared_calls.proofs.KeptCalls.{keeps-reserved}
use Rattle.serial_calls.proofs.GoingOn.{waits-same}
use Rattle.shared_calls.proofs.forecasting.forecast.Goals as goal

pub invariant_of-gate : goal.invariant_of-gate
invariant_of-gate g c =
    keeps-reserved g.F.StoreFile.state g.R.RpmbPort.state g.L.StoreName.store g.L.DevicesName.devices c.gate.inside.gate c.reserve.new.self c.reserve.ensures.gate c.reserve.ensures.knows c.gate.invariant

pub returns-in_err-reserve-clause-ends : goal.returns-in_err-reserve-clause-ends
returns-in_err-reserve-clause-ends g c =
    starves-forecast g.L.StoreName.store c.reserve.new.self c.args.session.now c.args.session.now c.args.call.now c.from_residual.result c.from_residual.ensures.0
    (waits-same g.L.StoreName.store c.args.session.now c.requires.caller)

pub invariant_of-gate-2 : goal.invariant_of-gate-2
invariant_of-gate-2 g c =
    keeps-forecast g.F.StoreFile.state g.R.RpmbPort.state g.E.Entropy.faults g.L.StoreName.store c.args.call.now c.reserve.new.self c.forecast.new.gate c.args.session.now c.forecast.new.session _
    g.L.DevicesName.devices c.gate.inside.gate c.reserve.ensures.gate c.reserve.ensures.knows c.forecast.ensures.draws.counted c.reveal_invariant.ensures.guarded.card_key c.reveal_invariant.ensures.stands c.gate.invariant
    c.forecast.result c.forecast.ensures.forecasts

pub returns-clause-ends : goal.returns-clause-ends
returns-clause-ends g c =
    ends-forecast g.F.StoreFile.state g.R.RpmbPort.state g.E.Entropy.faults g.L.StoreName.store c.args.call.now c.reserve.new.self c.forecast.new.gate c.args.session.now c.forecast.new.session _
    c.forecast.result c.forecast.ensures.forecasts

pub returns-clause-drawn : goal.returns-clause-drawn
returns-clause-drawn g c =
    drawn-forecast g.F.StoreFile.state g.R.RpmbPort.state g.E.Entropy.faults g.L.StoreName.store c.args.call.now c.reserve.new.self c.forecast.new.gate c.args.session.now c.forecast.new.session _
    g.L.DevicesName.devices c.gate.inside.gate c.reserve.ensures.gate c.reserve.ensures.knows c.forecast.ensures.draws.counted c.reveal_invariant.ensures.guarded.card_key c.reveal_invariant.ensures.stands c.gate.invariant
    c.forecast.result c.forecast.ensures.forecasts
