-- The rules answered.
use Rattle.std.proofs.Common.{Ok, Option, subst, sym, ◌∙◌}
use Rattle.call_rules.specs.Plain.{IsPlain}
use Rattle.serial_calls.specs.GateServed.{IsServed}
use Rattle.serial_calls.specs.declared.PlacedReply.{PlacedReply}
use Rattle.tee_types.specs.declared.call.Call.{Call}
use Rattle.tee_types.specs.declared.call.Call.TheVariants.{Write}
use Rattle.shared_calls.specs.Attempts.{EndsAttempt}
use Rattle.serial_calls.specs.SessionEvents.{IsWaiting}
use Rattle.shared_calls.proofs.KeptCalls.{keeps-ruled}
use Rattle.shared_calls.proofs.Served.{ruled-answers}
use Rattle.shared_calls.proofs.Waiting.{answers-then}
use Rattle.shared_calls.proofs.write_call.validate.Goals as goal

pub invariant_of-gate : goal.invariant_of-gate
invariant_of-gate g c =
    let done = c.answer_ruled in
    keeps-ruled g.F.StoreFile.state g.R.RpmbPort.state g.L.StoreName.store g.L.DevicesName.devices c.gate.inside.gate done.new.gate c.begin.new.session done.new.session c.in_ok-kept-in-Answered.kept
    done.result done.ensures.served (subst IsPlain (sym done.ensures.reply) c.in-Answered.ensures.plain) c.gate.invariant

pub returns-in_ok-kept-in-Answered-clause-ends : goal.returns-in_ok-kept-in-Answered-clause-ends
returns-in_ok-kept-in-Answered-clause-ends g c =
    let store = g.L.StoreName.store in
    let was = c.args.session.now in
    let between = c.begin.new.session in
    let done = c.answer_ruled in
    let call = Write c.args.handle c.args.bytes.now in
    let begun : IsWaiting store was between =
    subst (λ (o : Option PlacedReply). EndsAttempt {X = Unit {0}} store was between c.args.call.now (Ok o)) c.in_default.is c.in_ok-answer.ensures.ends in
    answers-then store was between done.new.session begun call done.result
    (ruled-answers store call between done.new.session done.result c.gate.inside.gate done.new.gate
    (subst (λ (x : Call). IsServed store x done.result c.gate.inside.gate done.new.gate between done.new.session) (c.in_ok-kept-in-Answered.ensures ∙ c.requires.call) done.ensures.served))
