-- The validations follow each other, and making the object comes between them.
use Rattle.std.proofs.Common.{Ok, subst, ℕ}
use Rattle.std.proofs.lemmas.Result.{err_from_is_err_and}
use Rattle.tee_types.specs.declared.call.Call.{Call}
use Rattle.shared_calls.specs.Attempts.{EndsAttempt}
use Rattle.shared_calls.specs.declared.validation.Validation.{Validation}
use Rattle.shared_calls.specs.Validations.{EndsLook}
use Rattle.serial_calls.specs.SessionEvents.{IsWaiting}
use Rattle.shared_calls.proofs.Waiting.{ends-then}
use Rattle.serial_calls.proofs.GoingOn.{waits-then}
use Rattle.shared_calls.proofs.create_call.attempt_with_slot.Goals as goal

pub returns-in_err-made-clause-ends : goal.returns-in_err-made-clause-ends
returns-in_err-made-clause-ends g c =
    let store = g.L.StoreName.store in
    let call = c.args.call.now in
    let was = c.args.session.now in
    let between = c.validate_first.new.session in
    let validated : IsWaiting store was between = subst (λ (x : Validation ℕ). EndsLook {X = Unit {0}} store was between call (Ok x)) c.in-Found.is c.in_ok-validated.ensures.ends in
    let now = c.make_slot.new.session in
    let p = err_from_is_err_and c.from_residual-in_err-made.result c.from_residual-in_err-made.ensures.1 in
    rw (p.1) (waits-then store was between now validated c.make_slot.ensures.waits)

pub returns-clause-ends : goal.returns-clause-ends
returns-clause-ends g c =
    let store = g.L.StoreName.store in
    let call = c.args.call.now in
    let was = c.args.session.now in
    let between = c.validate_first.new.session in
    let made = c.make_slot.new.session in
    let validated : IsWaiting store was between = subst (λ (x : Validation ℕ). EndsLook {X = Unit {0}} store was between call (Ok x)) c.in-Found.is c.in_ok-validated.ensures.ends in
    let waits = waits-then store was between made validated c.make_slot.ensures.waits in
    let now = c.validate_last.new.session in
    ends-then store was made now waits call c.validate_last.result
    (subst (λ (x : Call). EndsAttempt store made now x c.validate_last.result) c.in_ok-kept.ensures c.validate_last.ensures.ends)
