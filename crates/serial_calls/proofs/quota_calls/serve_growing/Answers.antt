-- The call is answered early, or forecast; and then refused, or served as it was forecast.
use Rattle.std.proofs.Common.{◌≡◌, ◌∙◌, ℕ, List, Err, Ok, OnOk, Result, ap, refl, subst, sym}
use Rattle.std.proofs.lemmas.Result.{err_from_is_err_and}
use Rattle.app_totals.specs.declared.numbers.Forecast.{Forecast}
use Rattle.history_seats.specs.Views.{GateView}
use Rattle.hmac_keys.specs.KeyTable.{rpmb_key}
use Rattle.store_model.specs.declared.event.Mark.TheVariants.{Unchanged}
use Rattle.call_steps.specs.Commits.{IsCalm}
use Rattle.call_steps.specs.Forecasts.{IsForecastAt}
use Rattle.call_steps.specs.Foreseen.{Forecasts, IsEarly, IsForeseen}
use Rattle.call_steps.specs.GateServed.{IsServedAlone}
use Rattle.call_steps.specs.Gates.{GateValue}
use Rattle.call_steps.specs.Rising.{devices_in}
use Rattle.call_steps.specs.declared.PlacedReply.{PlacedReply}
use Rattle.serial_calls.specs.HeldFiles.{KeepsHolds}
use Rattle.serial_calls.proofs.HeldSettling.{room_holds, settled_holds}
use Rattle.serial_calls.proofs.QuotaCallers.{early-limits, early_is, waiting-limits}
use Rattle.serial_calls.proofs.QuotaCalls.{answered_told, forecast-limits, refused-rightly, shown-limits, unanswered_told}
use Rattle.serial_calls.proofs.ServeSettling.{Settles, reserved_settles, settled_settles, settles_reserved}
use Rattle.serial_calls.proofs.Unfailed.{gate_unfailed, none_failed_then, settled_touched, settled_unfailed}
use Rattle.serial_calls.proofs.WholeCalls.{alone_serves, none_serves, object_serves, unserved_serves}
use Rattle.serial_calls.proofs.quota_calls.serve_growing.Goals as goal

pub returns-in_err-forecast-clause-serves : goal.returns-in_err-forecast-clause-serves
returns-in_err-forecast-clause-serves g c =
    let p = err_from_is_err_and c.from_residual-in_err-forecast.result c.from_residual-in_err-forecast.ensures.1 in
    rw (p.1)
    (unserved_serves g.F.StoreFile.state g.R.RpmbPort.state g.E.Entropy.faults g.L.StoreName.store c.args.gate.now c.reserve.new.self c.forecast.new.gate c.args.slots.now.items
    c.args.session.now c.forecast.new.session c.reserve.ensures.gate c.reserve.ensures.knows _ c.forecast.ensures.draws.counted c.reveal_invariant.ensures.guarded.card_key c.reveal_invariant.ensures.stands c.requires.slots c.args.call.now
    (Unit {0}) tt c.in_err-forecast.ensures.forecasts)

pub returns-in_err-forecast-clause-limits : goal.returns-in_err-forecast-clause-limits
returns-in_err-forecast-clause-limits g c =
    waiting-limits g.L.StoreName.store c.args.limit c.args.session.now c.forecast.new.session c.in_err-forecast.ensures.forecasts.waits

pub returns-in-Err-clause-serves : goal.returns-in-Err-clause-serves
returns-in-Err-clause-serves g c =
    let early : IsServedAlone g.F.StoreFile.state g.R.RpmbPort.state (g.E.Entropy.is_reliable c.args.session.now.entropy) (g.E.Entropy.faults c.args.session.now.entropy) (g.E.Entropy.faults c.forecast.new.session.entropy)
    g.L.StoreName.store c.args.call.now c.in-Err.answer c.reserve.new.self c.forecast.new.gate c.args.session.now c.forecast.new.session × IsEarly c.in-Err.answer.reply =
    subst
    (λ (r : Result Forecast PlacedReply). Forecasts g.F.StoreFile.state g.R.RpmbPort.state g.L.StoreName.store c.args.call.now c.reserve.new.self c.forecast.new.gate c.args.session.now c.forecast.new.session
    {X = Unit {0}} (g.E.Entropy.is_reliable c.args.session.now.entropy) (g.E.Entropy.faults c.args.session.now.entropy) (g.E.Entropy.faults c.forecast.new.session.entropy) (Ok r))
    c.in-Err.is c.in_ok-forecast.ensures.forecasts in
    alone_serves g.F.StoreFile.state g.R.RpmbPort.state g.E.Entropy.faults g.L.StoreName.store c.args.gate.now c.reserve.new.self c.forecast.new.gate c.args.slots.now.items
    c.args.session.now c.forecast.new.session c.reserve.ensures.gate c.reserve.ensures.knows _ c.forecast.ensures.draws.counted c.reveal_invariant.ensures.guarded.card_key c.reveal_invariant.ensures.stands c.requires.slots c.args.call.now
    c.in-Err.answer _ early.0

pub returns-in-Err-clause-limits : goal.returns-in-Err-clause-limits
returns-in-Err-clause-limits g c =
    let early : IsServedAlone g.F.StoreFile.state g.R.RpmbPort.state (g.E.Entropy.is_reliable c.args.session.now.entropy) (g.E.Entropy.faults c.args.session.now.entropy) (g.E.Entropy.faults c.forecast.new.session.entropy)
    g.L.StoreName.store c.args.call.now c.in-Err.answer c.reserve.new.self c.forecast.new.gate c.args.session.now c.forecast.new.session × IsEarly c.in-Err.answer.reply =
    subst
    (λ (r : Result Forecast PlacedReply). Forecasts g.F.StoreFile.state g.R.RpmbPort.state g.L.StoreName.store c.args.call.now c.reserve.new.self c.forecast.new.gate c.args.session.now c.forecast.new.session
    {X = Unit {0}} (g.E.Entropy.is_reliable c.args.session.now.entropy) (g.E.Entropy.faults c.args.session.now.entropy) (g.E.Entropy.faults c.forecast.new.session.entropy) (Ok r))
    c.in-Err.is c.in_ok-forecast.ensures.forecasts in
    early-limits g.L.StoreName.store c.args.limit c.args.session.now c.forecast.new.session c.args.call.now c.in-Err.answer Unchanged early.0.served.appends
    (early_is c.in-Err.answer.reply early.1) refl

pub returns-then-tells_beyond-clause-serves : goal.returns-then-tells_beyond-clause-serves
returns-then-tells_beyond-clause-serves g c =
    let store = g.L.StoreName.store in
    let of_file = g.F.StoreFile.state in
    let of_port = g.R.RpmbPort.state in
    let key : List ℕ = rpmb_key store.keys.huk in
    let foreseen : IsForeseen g.F.StoreFile.state g.R.RpmbPort.state g.L.StoreName.store c.args.call.now c.reserve.new.self c.forecast.new.gate c.args.session.now c.forecast.new.session c.in-Ok.forecast =
    subst
    (λ (r : Result Forecast PlacedReply). Forecasts g.F.StoreFile.state g.R.RpmbPort.state g.L.StoreName.store c.args.call.now c.reserve.new.self c.forecast.new.gate c.args.session.now c.forecast.new.session
    {X = Unit {0}} (g.E.Entropy.is_reliable c.args.session.now.entropy) (g.E.Entropy.faults c.args.session.now.entropy) (g.E.Entropy.faults c.forecast.new.session.entropy) (Ok r))
    c.in-Ok.is c.in_ok-forecast.ensures.forecasts in
    let settled : Settles of_file of_port key c.args.gate.now c.forecast.new.gate =
    reserved_settles of_file of_port key c.args.gate.now c.reserve.new.self c.forecast.new.gate c.reserve.ensures.gate c.reserve.ensures.knows
    (settled_settles of_file of_port key c.reserve.new.self c.forecast.new.gate foreseen.left.settled) in
    let held : KeepsHolds c.args.gate.now.gate c.forecast.new.gate.gate = λ held.
    settled_holds of_file of_port c.reserve.new.self c.forecast.new.gate foreseen.left.settled (room_holds c.args.gate.now.gate c.reserve.new.self.gate c.reserve.ensures.gate held) in
    none_serves of_file of_port g.E.Entropy.faults store c.args.gate.now c.reserve.new.self c.forecast.new.gate c.args.slots.now.items c.args.session.now c.forecast.new.session
    c.reserve.ensures.gate c.reserve.ensures.knows (Unit {0}) c.forecast.ensures.draws.counted c.reveal_invariant.ensures.guarded.card_key c.reveal_invariant.ensures.stands c.requires.slots c.args.call.now (Unit {0}) tt settled held
    foreseen.left.waits

pub returns-then-tells_beyond-clause-limits : goal.returns-then-tells_beyond-clause-limits
returns-then-tells_beyond-clause-limits g c =
    let foreseen : IsForeseen g.F.StoreFile.state g.R.RpmbPort.state g.L.StoreName.store c.args.call.now c.reserve.new.self c.forecast.new.gate c.args.session.now c.forecast.new.session c.in-Ok.forecast =
    subst
    (λ (r : Result Forecast PlacedReply). Forecasts g.F.StoreFile.state g.R.RpmbPort.state g.L.StoreName.store c.args.call.now c.reserve.new.self c.forecast.new.gate c.args.session.now c.forecast.new.session
    {X = Unit {0}} (g.E.Entropy.is_reliable c.args.session.now.entropy) (g.E.Entropy.faults c.args.session.now.entropy) (g.E.Entropy.faults c.forecast.new.session.entropy) (Ok r))
    c.in-Ok.is c.in_ok-forecast.ensures.forecasts in
    shown-limits g.L.StoreName.store c.args.limit c.args.session.now c.forecast.new.session c.forecast.new.gate c.requires.caller foreseen.left.waits foreseen.left.calm c.args.call.now
    c.in-Ok.forecast foreseen.told

pub returns-then-tells_beyond-clause-refused : goal.returns-then-tells_beyond-clause-refused
returns-then-tells_beyond-clause-refused g c =
    let foreseen : IsForeseen g.F.StoreFile.state g.R.RpmbPort.state g.L.StoreName.store c.args.call.now c.reserve.new.self c.forecast.new.gate c.args.session.now c.forecast.new.session c.in-Ok.forecast =
    subst
    (λ (r : Result Forecast PlacedReply). Forecasts g.F.StoreFile.state g.R.RpmbPort.state g.L.StoreName.store c.args.call.now c.reserve.new.self c.forecast.new.gate c.args.session.now c.forecast.new.session
    {X = Unit {0}} (g.E.Entropy.is_reliable c.args.session.now.entropy) (g.E.Entropy.faults c.args.session.now.entropy) (g.E.Entropy.faults c.forecast.new.session.entropy) (Ok r))
    c.in-Ok.is c.in_ok-forecast.ensures.forecasts in
    refused-rightly g.L.StoreName.store c.args.limit c.args.session.now c.forecast.new.session c.forecast.new.gate c.requires.caller foreseen.left.waits foreseen.left.calm c.args.call.now
    c.in-Ok.forecast foreseen.told (sym c.tells_beyond.ensures ∙ c.if-tells_beyond.true) foreseen.place

pub returns-in_err-reserve-2-clause-serves : goal.returns-in_err-reserve-2-clause-serves
returns-in_err-reserve-2-clause-serves g c =
    let store = g.L.StoreName.store in
    let of_file = g.F.StoreFile.state in
    let of_port = g.R.RpmbPort.state in
    let key : List ℕ = rpmb_key store.keys.huk in
    let foreseen : IsForeseen g.F.StoreFile.state g.R.RpmbPort.state g.L.StoreName.store c.args.call.now c.reserve.new.self c.forecast.new.gate c.args.session.now c.forecast.new.session c.in-Ok.forecast =
    subst
    (λ (r : Result Forecast PlacedReply). Forecasts g.F.StoreFile.state g.R.RpmbPort.state g.L.StoreName.store c.args.call.now c.reserve.new.self c.forecast.new.gate c.args.session.now c.forecast.new.session
    {X = Unit {0}} (g.E.Entropy.is_reliable c.args.session.now.entropy) (g.E.Entropy.faults c.args.session.now.entropy) (g.E.Entropy.faults c.forecast.new.session.entropy) (Ok r))
    c.in-Ok.is c.in_ok-forecast.ensures.forecasts in
    let settled : Settles of_file of_port key c.args.gate.now c.reserve-2.new.self =
    settles_reserved of_file of_port key c.args.gate.now c.forecast.new.gate c.reserve-2.new.self c.reserve-2.ensures.gate c.reserve-2.ensures.knows
    (reserved_settles of_file of_port key c.args.gate.now c.reserve.new.self c.forecast.new.gate c.reserve.ensures.gate c.reserve.ensures.knows
    (settled_settles of_file of_port key c.reserve.new.self c.forecast.new.gate foreseen.left.settled)) in
    let held : KeepsHolds c.args.gate.now.gate c.reserve-2.new.self.gate = λ held.
    room_holds c.forecast.new.gate.gate c.reserve-2.new.self.gate c.reserve-2.ensures.gate
    (settled_holds of_file of_port c.reserve.new.self c.forecast.new.gate foreseen.left.settled (room_holds c.args.gate.now.gate c.reserve.new.self.gate c.reserve.ensures.gate held)) in
    let p = err_from_is_err_and c.from_residual-in_err-reserve-2.result c.from_residual-in_err-reserve-2.ensures.1 in
    rw (p.1)
    (none_serves of_file of_port g.E.Entropy.faults store c.args.gate.now c.reserve.new.self c.reserve-2.new.self c.args.slots.now.items c.args.session.now c.forecast.new.session
    c.reserve.ensures.gate c.reserve.ensures.knows (Unit {0}) c.forecast.ensures.draws.counted c.reveal_invariant.ensures.guarded.card_key c.reveal_invariant.ensures.stands c.requires.slots c.args.call.now (Unit {0}) tt settled held
    foreseen.left.waits)

pub returns-in_err-reserve-2-clause-limits : goal.returns-in_err-reserve-2-clause-limits
returns-in_err-reserve-2-clause-limits g c =
    let foreseen : IsForeseen g.F.StoreFile.state g.R.RpmbPort.state g.L.StoreName.store c.args.call.now c.reserve.new.self c.forecast.new.gate c.args.session.now c.forecast.new.session c.in-Ok.forecast =
    subst
    (λ (r : Result Forecast PlacedReply). Forecasts g.F.StoreFile.state g.R.RpmbPort.state g.L.StoreName.store c.args.call.now c.reserve.new.self c.forecast.new.gate c.args.session.now c.forecast.new.session
    {X = Unit {0}} (g.E.Entropy.is_reliable c.args.session.now.entropy) (g.E.Entropy.faults c.args.session.now.entropy) (g.E.Entropy.faults c.forecast.new.session.entropy) (Ok r))
    c.in-Ok.is c.in_ok-forecast.ensures.forecasts in
    shown-limits g.L.StoreName.store c.args.limit c.args.session.now c.forecast.new.session c.forecast.new.gate c.requires.caller foreseen.left.waits foreseen.left.calm c.args.call.now
    c.in-Ok.forecast foreseen.told

pub returns-in_err-answer-clause-serves : goal.returns-in_err-answer-clause-serves
returns-in_err-answer-clause-serves g c =
    let store = g.L.StoreName.store in
    let of_file = g.F.StoreFile.state in
    let of_port = g.R.RpmbPort.state in
    let key : List ℕ = rpmb_key store.keys.huk in
    let foreseen : IsForeseen g.F.StoreFile.state g.R.RpmbPort.state g.L.StoreName.store c.args.call.now c.reserve.new.self c.forecast.new.gate c.args.session.now c.forecast.new.session c.in-Ok.forecast =
    subst
    (λ (r : Result Forecast PlacedReply). Forecasts g.F.StoreFile.state g.R.RpmbPort.state g.L.StoreName.store c.args.call.now c.reserve.new.self c.forecast.new.gate c.args.session.now c.forecast.new.session
    {X = Unit {0}} (g.E.Entropy.is_reliable c.args.session.now.entropy) (g.E.Entropy.faults c.args.session.now.entropy) (g.E.Entropy.faults c.forecast.new.session.entropy) (Ok r))
    c.in-Ok.is c.in_ok-forecast.ensures.forecasts in
    let settled : Settles of_file of_port key c.args.gate.now c.reserve-2.new.self =
    settles_reserved of_file of_port key c.args.gate.now c.forecast.new.gate c.reserve-2.new.self c.reserve-2.ensures.gate c.reserve-2.ensures.knows
    (reserved_settles of_file of_port key c.args.gate.now c.reserve.new.self c.forecast.new.gate c.reserve.ensures.gate c.reserve.ensures.knows
    (settled_settles of_file of_port key c.reserve.new.self c.forecast.new.gate foreseen.left.settled)) in
    let held : KeepsHolds c.args.gate.now.gate c.reserve-2.new.self.gate = λ held.
    room_holds c.forecast.new.gate.gate c.reserve-2.new.self.gate c.reserve-2.ensures.gate
    (settled_holds of_file of_port c.reserve.new.self c.forecast.new.gate foreseen.left.settled (room_holds c.args.gate.now.gate c.reserve.new.self.gate c.reserve.ensures.gate held)) in
    let p = err_from_is_err_and c.from_residual-in_err-answer.result c.from_residual-in_err-answer.ensures.1 in
    rw (p.1)
    (unanswered_told of_file of_port g.E.Entropy.faults store (record { gate = c.args.gate.now; slots = c.args.slots.now.items; session = c.args.session.now })
    (record { gate = c.serve_object.new.gate; slots = c.serve_object.new.slots.items; session = c.serve_object.new.session }) c.args.call.now _ (Unit {0}) c.in_err-answer.field-0.0 tt
    (object_serves of_file of_port g.E.Entropy.faults store c.args.gate.now c.reserve-2.new.self c.serve_object.new.gate c.args.slots.now.items c.serve_object.new.slots.items c.args.session.now c.forecast.new.session
    c.serve_object.new.session settled held c.forecast.ensures.draws.counted foreseen.left.waits c.args.call.now _ (Err c.in_err-answer.field-0.0) c.in_err-answer.ensures.serves))

pub returns-in_err-answer-clause-limits : goal.returns-in_err-answer-clause-limits
returns-in_err-answer-clause-limits g c =
    let foreseen : IsForeseen g.F.StoreFile.state g.R.RpmbPort.state g.L.StoreName.store c.args.call.now c.reserve.new.self c.forecast.new.gate c.args.session.now c.forecast.new.session c.in-Ok.forecast =
    subst
    (λ (r : Result Forecast PlacedReply). Forecasts g.F.StoreFile.state g.R.RpmbPort.state g.L.StoreName.store c.args.call.now c.reserve.new.self c.forecast.new.gate c.args.session.now c.forecast.new.session
    {X = Unit {0}} (g.E.Entropy.is_reliable c.args.session.now.entropy) (g.E.Entropy.faults c.args.session.now.entropy) (g.E.Entropy.faults c.forecast.new.session.entropy) (Ok r))
    c.in-Ok.is c.in_ok-forecast.ensures.forecasts in
    forecast-limits g.L.StoreName.store c.args.limit c.args.session.now c.forecast.new.session c.reserve-2.new.self c.requires.caller foreseen.left.waits
    (subst (λ (v : GateView). IsCalm g.L.StoreName.store v c.forecast.new.session) (sym c.reserve-2.ensures.knows) foreseen.left.calm) c.args.call.now c.in-Ok.forecast
    (subst (λ (v : GateView). IsForecastAt g.L.StoreName.store v.all c.forecast.new.session.number c.args.call.now c.in-Ok.forecast) (sym c.reserve-2.ensures.knows) foreseen.told)
    (sym c.tells_beyond.ensures ∙ c.if-tells_beyond.false) c.serve_object.new.gate c.serve_object.new.session g.F.StoreFile.state g.R.RpmbPort.state g.E.Entropy.faults c.args.slots.now.items
    c.serve_object.new.slots.items _ c.serve_object.result c.serve_object.ensures.serves.answers

pub returns-clause-serves : goal.returns-clause-serves
returns-clause-serves g c =
    let store = g.L.StoreName.store in
    let of_file = g.F.StoreFile.state in
    let of_port = g.R.RpmbPort.state in
    let key : List ℕ = rpmb_key store.keys.huk in
    let foreseen : IsForeseen g.F.StoreFile.state g.R.RpmbPort.state g.L.StoreName.store c.args.call.now c.reserve.new.self c.forecast.new.gate c.args.session.now c.forecast.new.session c.in-Ok.forecast =
    subst
    (λ (r : Result Forecast PlacedReply). Forecasts g.F.StoreFile.state g.R.RpmbPort.state g.L.StoreName.store c.args.call.now c.reserve.new.self c.forecast.new.gate c.args.session.now c.forecast.new.session
    {X = Unit {0}} (g.E.Entropy.is_reliable c.args.session.now.entropy) (g.E.Entropy.faults c.args.session.now.entropy) (g.E.Entropy.faults c.forecast.new.session.entropy) (Ok r))
    c.in-Ok.is c.in_ok-forecast.ensures.forecasts in
    let settled : Settles of_file of_port key c.args.gate.now c.reserve-2.new.self =
    settles_reserved of_file of_port key c.args.gate.now c.forecast.new.gate c.reserve-2.new.self c.reserve-2.ensures.gate c.reserve-2.ensures.knows
    (reserved_settles of_file of_port key c.args.gate.now c.reserve.new.self c.forecast.new.gate c.reserve.ensures.gate c.reserve.ensures.knows
    (settled_settles of_file of_port key c.reserve.new.self c.forecast.new.gate foreseen.left.settled)) in
    let held : KeepsHolds c.args.gate.now.gate c.reserve-2.new.self.gate = λ held.
    room_holds c.forecast.new.gate.gate c.reserve-2.new.self.gate c.reserve-2.ensures.gate
    (settled_holds of_file of_port c.reserve.new.self c.forecast.new.gate foreseen.left.settled (room_holds c.args.gate.now.gate c.reserve.new.self.gate c.reserve.ensures.gate held)) in
    answered_told of_file of_port g.E.Entropy.faults store (record { gate = c.args.gate.now; slots = c.args.slots.now.items; session = c.args.session.now })
    (record { gate = c.serve_object.new.gate; slots = c.serve_object.new.slots.items; session = c.serve_object.new.session }) c.args.call.now _ (Unit {0}) c.in_ok-answer.answer
    (object_serves of_file of_port g.E.Entropy.faults store c.args.gate.now c.reserve-2.new.self c.serve_object.new.gate c.args.slots.now.items c.serve_object.new.slots.items c.args.session.now c.forecast.new.session
    c.serve_object.new.session settled held c.forecast.ensures.draws.counted foreseen.left.waits c.args.call.now _ (Ok c.in_ok-answer.answer) c.in_ok-answer.ensures.serves)

pub returns-clause-limits : goal.returns-clause-limits
returns-clause-limits g c =
    let foreseen : IsForeseen g.F.StoreFile.state g.R.RpmbPort.state g.L.StoreName.store c.args.call.now c.reserve.new.self c.forecast.new.gate c.args.session.now c.forecast.new.session c.in-Ok.forecast =
    subst
    (λ (r : Result Forecast PlacedReply). Forecasts g.F.StoreFile.state g.R.RpmbPort.state g.L.StoreName.store c.args.call.now c.reserve.new.self c.forecast.new.gate c.args.session.now c.forecast.new.session
    {X = Unit {0}} (g.E.Entropy.is_reliable c.args.session.now.entropy) (g.E.Entropy.faults c.args.session.now.entropy) (g.E.Entropy.faults c.forecast.new.session.entropy) (Ok r))
    c.in-Ok.is c.in_ok-forecast.ensures.forecasts in
    forecast-limits g.L.StoreName.store c.args.limit c.args.session.now c.forecast.new.session c.reserve-2.new.self c.requires.caller foreseen.left.waits
    (subst (λ (v : GateView). IsCalm g.L.StoreName.store v c.forecast.new.session) (sym c.reserve-2.ensures.knows) foreseen.left.calm) c.args.call.now c.in-Ok.forecast
    (subst (λ (v : GateView). IsForecastAt g.L.StoreName.store v.all c.forecast.new.session.number c.args.call.now c.in-Ok.forecast) (sym c.reserve-2.ensures.knows) foreseen.told)
    (sym c.tells_beyond.ensures ∙ c.if-tells_beyond.false) c.serve_object.new.gate c.serve_object.new.session g.F.StoreFile.state g.R.RpmbPort.state g.E.Entropy.faults c.args.slots.now.items
    c.serve_object.new.slots.items _ c.serve_object.result c.serve_object.ensures.serves.answers

pub returns-in_err-answer-clause-passed : goal.returns-in_err-answer-clause-passed
returns-in_err-answer-clause-passed g c =
    let of_file = g.F.StoreFile.state in
    let of_port = g.R.RpmbPort.state in
    let faults = g.E.Entropy.faults in
    let was = c.args.session.now in
    let shown = c.forecast.new.session in
    let foreseen : IsForeseen of_file of_port g.L.StoreName.store c.args.call.now c.reserve.new.self c.forecast.new.gate was shown c.in-Ok.forecast =
    subst
    (λ (r : Result Forecast PlacedReply). Forecasts of_file of_port g.L.StoreName.store c.args.call.now c.reserve.new.self c.forecast.new.gate was shown
    {X = Unit {0}} (g.E.Entropy.is_reliable was.entropy) (faults was.entropy) (faults shown.entropy) (Ok r))
    c.in-Ok.is c.in_ok-forecast.ensures.forecasts in
    let counts = settled_unfailed of_file of_port c.reserve.new.self c.forecast.new.gate (settled_touched of_file of_port c.reserve.new.self c.forecast.new.gate foreseen.left.settled) in
    let p = err_from_is_err_and c.from_residual-in_err-answer.result c.from_residual-in_err-answer.ensures.1 in
    rw (p.1)
    (none_failed_then (devices_in of_file of_port faults (record { gate = c.args.gate.now; slots = c.args.slots.now.items; session = was }))
    (devices_in of_file of_port faults (record { gate = c.reserve-2.new.self; slots = c.args.slots.now.items; session = shown }))
    (devices_in of_file of_port faults (record { gate = c.serve_object.new.gate; slots = c.serve_object.new.slots.items; session = c.serve_object.new.session }))
    (gate_unfailed of_file of_port faults c.args.gate.now c.reserve-2.new.self c.args.slots.now.items was shown
    (ap (λ (x : GateValue g.row.F.Denot g.row.R.Denot). (of_file x.dir.file).faults) c.reserve-2.ensures.gate ∙ counts.0 ∙ ap (λ (x : GateValue g.row.F.Denot g.row.R.Denot). (of_file x.dir.file).faults) c.reserve.ensures.gate)
    (ap (λ (x : GateValue g.row.F.Denot g.row.R.Denot). (of_port x.host.port).faults) c.reserve-2.ensures.gate ∙ counts.1 ∙ ap (λ (x : GateValue g.row.F.Denot g.row.R.Denot). (of_port x.host.port).faults) c.reserve.ensures.gate)
    (subst (λ (r : Result Forecast PlacedReply). OnOk r (faults shown.entropy ≡ faults was.entropy)) c.in-Ok.is c.in_ok-forecast.ensures.undrawn))
    c.in_err-answer.ensures.passed)
