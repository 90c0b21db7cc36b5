-- The validations follow each other.
use Rattle.std.proofs.Common.{subst, Ok}
use Rattle.shared_calls.specs.declared.validation.Validation.{Validation}
use Rattle.call_rules.specs.declared.decision.OpenObject.{OpenObject}
use Rattle.tee_types.specs.declared.call.Call.TheVariants.{Read}
use Rattle.shared_calls.specs.Validations.{EndsLook}
use Rattle.shared_calls.proofs.Waiting.{ends-then}
use Rattle.shared_calls.proofs.KeptSlots.{keeps-untold}
use Rattle.shared_calls.proofs.read_call.attempt.Goals as goal

pub returns-clause-ends : goal.returns-clause-ends
returns-clause-ends g c =
    let store = g.L.StoreName.store in
    let call = Read c.args.handle c.args.size in
    let was = c.args.session.now in
    let between = c.validate_first.new.session in
    ends-then store was between c.validate_last.new.session
    (subst (λ (x : Validation OpenObject). EndsLook {X = Unit {0}} store was between call (Ok x)) c.in-Found.is c.in_ok-validated.ensures.ends)
    call c.validate_last.result c.validate_last.ensures.ends

pub returns-in_err-told-clause-kept : goal.returns-in_err-told-clause-kept
returns-in_err-told-clause-kept g c = keeps-untold g.L.DevicesName.devices c.read_slot.new.slot _ c.in_ok-reply.ensures.kept
