-- The gate keeps what always holds of its devices, whatever it did alone. Where no commit was in doubt nothing was resolved.
use Rattle.std.proofs.Common.{◌≡◌, ◌∙◌, None, Ok, Option, ap, subst}
use Rattle.serial_calls.proofs.Unfailed.{settled_same}
use Rattle.serial_calls.specs.Gates.{GateValue}
use Rattle.serial_calls.specs.GuardedGates.{GuardedGateValue}
use Rattle.serial_calls.specs.GateServed.{IsLeft, ServesAlone}
use Rattle.serial_calls.specs.declared.PlacedReply.{PlacedReply}
use Rattle.shared_calls.proofs.KeptCalls.{keeps-alone, keeps-left, keeps-reserved, keeps-unserved}
use Rattle.shared_calls.proofs.Waiting.{starves}
use Rattle.serial_calls.proofs.GoingOn.{waits-same}
use Rattle.shared_calls.proofs.gate_entry.begin.Goals as goal

pub invariant_of-gate : goal.invariant_of-gate
invariant_of-gate g c =
    keeps-reserved g.F.StoreFile.state g.R.RpmbPort.state g.L.StoreName.store g.L.DevicesName.devices c.gate.inside.gate c.reserve.new.self c.reserve.ensures.gate c.reserve.ensures.knows c.gate.invariant

pub returns-in_err-reserve-clause-ends : goal.returns-in_err-reserve-clause-ends
returns-in_err-reserve-clause-ends g c =
    starves g.L.StoreName.store c.args.session.now c.args.session.now c.args.call.now c.from_residual.result c.from_residual.ensures.0
    (waits-same g.L.StoreName.store c.args.session.now c.requires.caller)

pub invariant_of-gate-in_err-answer : goal.invariant_of-gate-in_err-answer
invariant_of-gate-in_err-answer g c =
    keeps-unserved g.F.StoreFile.state g.R.RpmbPort.state g.L.StoreName.store g.L.DevicesName.devices g.E.Entropy.faults c.gate.inside.gate c.reserve.new.self c.answer_alone.new.gate
    c.args.session.now c.answer_alone.new.session c.reserve.ensures.gate c.reserve.ensures.knows _ c.answer_alone.ensures.draws.counted c.reveal_invariant.ensures.guarded.card_key c.reveal_invariant.ensures.stands
    c.gate.invariant c.in_err-answer.ensures.serves

pub invariant_of-gate-in-Some : goal.invariant_of-gate-in-Some
invariant_of-gate-in-Some g c =
    keeps-alone g.F.StoreFile.state g.R.RpmbPort.state g.L.StoreName.store g.L.DevicesName.devices g.E.Entropy.faults c.gate.inside.gate c.reserve.new.self c.answer_alone.new.gate
    c.args.session.now c.answer_alone.new.session c.reserve.ensures.gate c.reserve.ensures.knows _ c.answer_alone.ensures.draws.counted c.reveal_invariant.ensures.guarded.card_key c.reveal_invariant.ensures.stands
    c.gate.invariant c.args.call.now c.in-Some.answer
    (subst
    (λ (o : Option PlacedReply). ServesAlone g.F.StoreFile.state g.R.RpmbPort.state (g.E.Entropy.is_reliable c.args.session.now.entropy) (g.E.Entropy.faults c.args.session.now.entropy)
    (g.E.Entropy.faults c.answer_alone.new.session.entropy) {X = Unit {0}} g.L.StoreName.store c.args.call.now c.reserve.new.self c.answer_alone.new.gate c.args.session.now c.answer_alone.new.session (Ok o))
    c.in-Some.is c.in_ok-answer.ensures.serves)

pub invariant_of-gate-in_err-reserve-2 : goal.invariant_of-gate-in_err-reserve-2
invariant_of-gate-in_err-reserve-2 g c =
    keeps-left g.F.StoreFile.state g.R.RpmbPort.state g.L.StoreName.store g.L.DevicesName.devices c.gate.inside.gate c.reserve.new.self c.answer_alone.new.gate c.reserve-2.new.self
    c.args.session.now c.answer_alone.new.session c.reserve.ensures.gate c.reserve.ensures.knows c.reserve-2.ensures.gate c.reserve-2.ensures.knows
    (subst
    (λ (o : Option PlacedReply). ServesAlone g.F.StoreFile.state g.R.RpmbPort.state (g.E.Entropy.is_reliable c.args.session.now.entropy) (g.E.Entropy.faults c.args.session.now.entropy)
    (g.E.Entropy.faults c.answer_alone.new.session.entropy) {X = Unit {0}} g.L.StoreName.store c.args.call.now c.reserve.new.self c.answer_alone.new.gate c.args.session.now c.answer_alone.new.session (Ok o))
    c.in_default.is c.in_ok-answer.ensures.serves)
    c.gate.invariant

pub invariant_of-gate-2 : goal.invariant_of-gate-2
invariant_of-gate-2 g c =
    keeps-left g.F.StoreFile.state g.R.RpmbPort.state g.L.StoreName.store g.L.DevicesName.devices c.gate.inside.gate c.reserve.new.self c.answer_alone.new.gate c.reserve-2.new.self
    c.args.session.now c.answer_alone.new.session c.reserve.ensures.gate c.reserve.ensures.knows c.reserve-2.ensures.gate c.reserve-2.ensures.knows
    (subst
    (λ (o : Option PlacedReply). ServesAlone g.F.StoreFile.state g.R.RpmbPort.state (g.E.Entropy.is_reliable c.args.session.now.entropy) (g.E.Entropy.faults c.args.session.now.entropy)
    (g.E.Entropy.faults c.answer_alone.new.session.entropy) {X = Unit {0}} g.L.StoreName.store c.args.call.now c.reserve.new.self c.answer_alone.new.gate c.args.session.now c.answer_alone.new.session (Ok o))
    c.in_default.is c.in_ok-answer.ensures.serves)
    c.gate.invariant

pub returns-in_err-answer-clause-let_be : goal.returns-in_err-answer-clause-let_be
returns-in_err-answer-clause-let_be g c = λ none.
    c.answer_alone.ensures.let_be
    (ap (λ (x : GateValue g.row.F.Denot g.row.R.Denot). x.doubt) c.reserve.ensures.gate ∙ ap (λ (x : GuardedGateValue g.row.F.Denot g.row.R.Denot). x.gate.doubt) c.gate.view_is ∙ none)

pub returns-in-Some-clause-let_be : goal.returns-in-Some-clause-let_be
returns-in-Some-clause-let_be g c = λ none.
    c.answer_alone.ensures.let_be
    (ap (λ (x : GateValue g.row.F.Denot g.row.R.Denot). x.doubt) c.reserve.ensures.gate ∙ ap (λ (x : GuardedGateValue g.row.F.Denot g.row.R.Denot). x.gate.doubt) c.gate.view_is ∙ none)

pub returns-in_err-reserve-2-clause-let_be : goal.returns-in_err-reserve-2-clause-let_be
returns-in_err-reserve-2-clause-let_be g c = λ none.
    c.answer_alone.ensures.let_be
    (ap (λ (x : GateValue g.row.F.Denot g.row.R.Denot). x.doubt) c.reserve.ensures.gate ∙ ap (λ (x : GuardedGateValue g.row.F.Denot g.row.R.Denot). x.gate.doubt) c.gate.view_is ∙ none)

pub returns-clause-let_be : goal.returns-clause-let_be
returns-clause-let_be g c = λ none.
    c.answer_alone.ensures.let_be
    (ap (λ (x : GateValue g.row.F.Denot g.row.R.Denot). x.doubt) c.reserve.ensures.gate ∙ ap (λ (x : GuardedGateValue g.row.F.Denot g.row.R.Denot). x.gate.doubt) c.gate.view_is ∙ none)

pub returns-clause-counter : goal.returns-clause-counter
returns-clause-counter g c = λ no_answer none.
    let alone = c.answer_alone in
    let left : IsLeft g.F.StoreFile.state g.R.RpmbPort.state g.L.StoreName.store c.reserve.new.self alone.new.gate c.args.session.now alone.new.session =
    subst
    (λ (o : Option PlacedReply). ServesAlone g.F.StoreFile.state g.R.RpmbPort.state (g.E.Entropy.is_reliable c.args.session.now.entropy) (g.E.Entropy.faults c.args.session.now.entropy)
    (g.E.Entropy.faults alone.new.session.entropy) {X = Unit {0}} g.L.StoreName.store c.args.call.now c.reserve.new.self alone.new.gate c.args.session.now alone.new.session (Ok o))
    c.in_default.is c.in_ok-answer.ensures.serves in
    let idle : c.reserve.new.self.gate.doubt ≡ None =
    ap (λ (x : GateValue g.row.F.Denot g.row.R.Denot). x.doubt) c.reserve.ensures.gate ∙ ap (λ (x : GuardedGateValue g.row.F.Denot g.row.R.Denot). x.gate.doubt) c.gate.view_is ∙ none in
    ap (λ (x : GateValue g.row.F.Denot g.row.R.Denot). x.counter) c.reserve-2.ensures.gate
    ∙ ap (λ (x : GuardedGateValue g.row.F.Denot g.row.R.Denot). x.gate.counter) (settled_same g.F.StoreFile.state g.R.RpmbPort.state c.reserve.new.self alone.new.gate idle left.settled)
    ∙ ap (λ (x : GateValue g.row.F.Denot g.row.R.Denot). x.counter) c.reserve.ensures.gate ∙ ap (λ (x : GuardedGateValue g.row.F.Denot g.row.R.Denot). x.gate.counter) c.gate.view_is
