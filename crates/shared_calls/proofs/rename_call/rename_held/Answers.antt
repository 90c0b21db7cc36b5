-- The call is answered by how its commit ended, and gate and slot keep what always holds of them.
use Rattle.std.proofs.Common.{Ok, refl, subst, sym}
use Rattle.call_rules.specs.declared.decision.OpenObject.{OpenObject}
use Rattle.serial_calls.specs.GuardedGates.{GuardedGateValue}
use Rattle.tee_types.specs.declared.call.Call.TheVariants.{Rename}
use Rattle.tee_types.specs.declared.reply.Reply.TheVariants.{Done}
use Rattle.serial_calls.specs.NameChanges.{rename_change}
use Rattle.shared_calls.specs.declared.validation.Validation.{Validation}
use Rattle.shared_calls.specs.Validations.{EndsLook, IfFound}
use Rattle.shared_calls.specs.SharedReady.{IsReady}
use Rattle.shared_calls.proofs.SharedCommits.{committed-answers}
use Rattle.shared_calls.proofs.KeptCalls.{keeps-committed, known-card}
use Rattle.shared_calls.proofs.SharedViews.{keeps-shown-committable}
use Rattle.shared_calls.proofs.Waiting.{answers-then}
use Rattle.shared_calls.proofs.rename_call.rename_held.Goals as goal

pub returns-clause-ends : goal.returns-clause-ends
returns-clause-ends g c =
    let store = g.L.StoreName.store in
    let call = Rename c.args.handle c.args.id in
    let was = c.args.session.now in
    let between = c.validate.new.session in
    let done = c.rename in
    let answer = c.in_ok-answer-2 in
    answers-then store was between done.new.session
    (subst (λ (x : Validation OpenObject). EndsLook {X = Unit {0}} store was between call (Ok x)) c.in-Found.is c.in_ok-answer.ensures.ends) call answer.answer
    (committed-answers g.F.StoreFile.state g.R.RpmbPort.state g.E.Entropy.faults store c.gate.inside.gate done.new.gate c.args.slot.now.number between done.new.session call Done
    (rename_change c.in-Found.found c.args.id) (g.E.Entropy.is_reliable between.entropy) answer.answer answer.ensures.committed)

pub invariant_of-gate-2 : goal.invariant_of-gate-2
invariant_of-gate-2 g c =
    let store = g.L.StoreName.store in
    let old = c.gate.inside.gate in
    let between = c.validate.new.session in
    let done = c.rename in
    let answer = c.in_ok-answer-2 in
    let ready : IsReady store c.validate.new.gate between =
    subst (λ (x : Validation OpenObject). IfFound {X = Unit {0}} (Ok x) (λ found. IsReady store c.validate.new.gate between)) c.in-Found.is c.in_ok-answer.ensures.ready in
    let known =
    known-card g.F.StoreFile.state g.R.RpmbPort.state old.gate _ c.reveal_invariant.ensures.guarded.card_key
    (subst (λ (x : GuardedGateValue _ _). IsReady store x between) (sym c.gate.view_is) ready).idle c.reveal_invariant.ensures.stands in
    keeps-committed g.F.StoreFile.state g.R.RpmbPort.state store g.L.DevicesName.devices g.E.Entropy.faults old done.new.gate c.args.slot.now.number c.requires.kept.object between done.new.session
    (Rename c.args.handle c.args.id) Done (rename_change c.in-Found.found c.args.id) (g.E.Entropy.is_reliable between.entropy) answer.answer (λ d0 d1. tt) known answer.ensures.committed c.gate.invariant

pub returns-clause-kept : goal.returns-clause-kept
returns-clause-kept g c =
    let between = c.validate.new.session in
    let done = c.rename in
    let answer = c.in_ok-answer-2 in
    keeps-shown-committable g.L.DevicesName.devices c.args.slot.now done.new.slot done.ensures.number done.ensures.file g.F.StoreFile.state g.R.RpmbPort.state g.L.StoreName.store
    c.number.ensures.guarded c.gate.inside.gate done.new.gate answer.ensures.agreed answer.ensures.whole c.args.slot.now.number between done.new.session (Rename c.args.handle c.args.id) Done (rename_change c.in-Found.found c.args.id)
    (g.E.Entropy.is_reliable between.entropy) (g.E.Entropy.faults between.entropy) (g.E.Entropy.faults done.new.session.entropy) answer.answer answer.ensures.committed refl c.requires.kept
