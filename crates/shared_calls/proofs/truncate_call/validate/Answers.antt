-- The rules answered for any size.
use Rattle.std.proofs.Common.{ℕ, Ok, Option, subst, sym}
use Rattle.call_rules.specs.Matches.{Matches}
use Rattle.call_rules.specs.Plain.{IsPlain}
use Rattle.call_rules.specs.Told.{IsTold}
use Rattle.serial_calls.specs.declared.PlacedReply.{PlacedReply}
use Rattle.store_model.specs.Machine.{MachineState, Session}
use Rattle.tee_types.specs.declared.call.Call.TheVariants.{Truncate}
use Rattle.shared_calls.specs.Attempts.{EndsAttempt}
use Rattle.serial_calls.specs.SessionEvents.{IsWaiting}
use Rattle.shared_calls.proofs.KeptCalls.{keeps-ruled}
use Rattle.shared_calls.proofs.RefusedCalls.{refused-plain}
use Rattle.shared_calls.proofs.Served.{ruled-answers}
use Rattle.shared_calls.proofs.Waiting.{answers-then}
use Rattle.shared_calls.proofs.truncate_call.validate.Goals as goal

pub answer_ruled-requires-clause-told : goal.answer_ruled-requires-clause-told
answer_ruled-requires-clause-told g c =
    let gate = c.gate.inside.gate.gate in
    subst
    (λ (session : Session). (s : MachineState) (i : ℕ) → Matches gate.dir.dir.entries gate.open_handles session s i
    → IsTold s i (Truncate c.args.handle c.args.size) c.in-Answered.reply session)
    c.state.ensures (λ s i m. c.in-Answered.ensures.told s i c.args.size m)

pub invariant_of-gate : goal.invariant_of-gate
invariant_of-gate g c =
    let done = c.answer_ruled in
    keeps-ruled g.F.StoreFile.state g.R.RpmbPort.state g.L.StoreName.store g.L.DevicesName.devices c.gate.inside.gate done.new.gate c.begin.new.session done.new.session (Truncate c.args.handle c.args.size)
    done.result done.ensures.served (subst IsPlain (sym done.ensures.reply) (refused-plain c.in-Answered.reply c.in-Answered.ensures.refused)) c.gate.invariant

pub returns-in-Answered-clause-ends : goal.returns-in-Answered-clause-ends
returns-in-Answered-clause-ends g c =
    let store = g.L.StoreName.store in
    let call = Truncate c.args.handle c.args.size in
    let was = c.args.session.now in
    let between = c.begin.new.session in
    let done = c.answer_ruled in
    let begun : IsWaiting store was between = subst (λ (o : Option PlacedReply). EndsAttempt {X = Unit {0}} store was between call (Ok o)) c.in_default.is c.in_ok-answer.ensures.ends in
    answers-then store was between done.new.session begun call done.result
    (ruled-answers store call between done.new.session done.result c.gate.inside.gate done.new.gate done.ensures.served)
