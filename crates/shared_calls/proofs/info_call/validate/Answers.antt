-- What the rules answered is an event of the session.
use Rattle.std.proofs.Common.{Ok, Option, subst, sym}
use Rattle.tee_types.specs.declared.call.Call.TheVariants.{Info}
use Rattle.call_rules.specs.Plain.{IsPlain}
use Rattle.serial_calls.specs.declared.PlacedReply.{PlacedReply}
use Rattle.shared_calls.specs.Attempts.{EndsAttempt}
use Rattle.shared_calls.proofs.KeptCalls.{keeps-ruled}
use Rattle.shared_calls.proofs.RefusedCalls.{refused-plain}
use Rattle.shared_calls.proofs.Served.{ruled-answers}
use Rattle.shared_calls.proofs.Waiting.{answers-then}
use Rattle.shared_calls.proofs.info_call.validate.Goals as goal

pub invariant_of-gate : goal.invariant_of-gate
invariant_of-gate g c =
    let ruled = c.answer_ruled in
    keeps-ruled g.F.StoreFile.state g.R.RpmbPort.state g.L.StoreName.store g.L.DevicesName.devices c.gate.inside.gate ruled.new.gate c.begin.new.session ruled.new.session
    (Info c.args.handle) ruled.result ruled.ensures.served (subst IsPlain (sym ruled.ensures.reply) (refused-plain c.in-Answered.reply c.in-Answered.ensures.refused)) c.gate.invariant

pub returns-in-Answered-clause-ends : goal.returns-in-Answered-clause-ends
returns-in-Answered-clause-ends g c =
    let store = g.L.StoreName.store in
    let call = Info c.args.handle in
    let ruled = c.answer_ruled in
    answers-then store c.args.session.now c.begin.new.session ruled.new.session
    (subst (λ (x : Option PlacedReply). EndsAttempt {X = Unit {0}} store c.args.session.now c.begin.new.session call (Ok x)) c.in_default.is c.in_ok-answer.ensures.ends) call ruled.result
    (ruled-answers store call c.begin.new.session ruled.new.session ruled.result c.gate.inside.gate ruled.new.gate ruled.ensures.served)
