-- The validations follow each other.
use Rattle.std.proofs.Common.{Ok, subst}
use Rattle.call_rules.specs.declared.decision.OpenObject.{OpenObject}
use Rattle.tee_types.specs.declared.call.Call.TheVariants.{Truncate}
use Rattle.shared_calls.specs.declared.validation.Validation.{Validation}
use Rattle.shared_calls.specs.Validations.{EndsLook}
use Rattle.shared_calls.proofs.Waiting.{ends-then}
use Rattle.shared_calls.proofs.truncate_call.attempt.Goals as goal

pub returns-clause-ends : goal.returns-clause-ends
returns-clause-ends g c =
    let store = g.L.StoreName.store in
    let call = Truncate c.args.handle c.args.size in
    let was = c.args.session.now in
    let between = c.validate_first.new.session in
    ends-then store was between c.truncate_slot.new.session
    (subst (λ (x : Validation OpenObject). EndsLook {X = Unit {0}} store was between call (Ok x)) c.in-Found.is c.in_ok-validated.ensures.ends)
    call c.truncate_slot.result c.truncate_slot.ensures.ends
