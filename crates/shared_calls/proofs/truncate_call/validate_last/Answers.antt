-- What was staged is brought where the object is found again.
use Rattle.std.proofs.Common.{Ok, subst}
use Rattle.call_rules.specs.declared.decision.OpenObject.{OpenObject}
use Rattle.shared_calls.specs.declared.validation.Validation.{Validation}
use Rattle.shared_calls.specs.Validations.{EndsLook}
use Rattle.tee_types.specs.declared.call.Call.TheVariants.{Truncate}
use Rattle.shared_calls.proofs.Waiting.{answers-then}
use Rattle.shared_calls.proofs.truncate_call.validate_last.Goals as goal

pub returns-clause-ends : goal.returns-clause-ends
returns-clause-ends g c =
    let store = g.L.StoreName.store in
    let call = Truncate c.args.handle c.args.size in
    let was = c.args.session.now in
    let between = c.validate_again.new.session in
    let done = c.answer_staged in
    answers-then store was between done.new.session
    (subst (λ (x : Validation OpenObject). EndsLook {X = Unit {0}} store was between call (Ok x)) c.in-Ok-Found.field-0-is c.in-Ok-Found.ensures.ends) call done.result done.ensures.answered
