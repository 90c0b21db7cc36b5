-- The validations follow each other.
use Rattle.std.proofs.Common.{List, Ok, subst, ℕ}
use Rattle.call_rules.specs.declared.decision.OpenObject.{OpenObject}
use Rattle.tee_types.specs.declared.call.Call.TheVariants.{Write}
use Rattle.shared_calls.specs.declared.validation.Validation.{Validation}
use Rattle.shared_calls.specs.Validations.{EndsLook}
use Rattle.shared_calls.specs.Attempts.{EndsAttempt}
use Rattle.shared_calls.proofs.Waiting.{ends-then}
use Rattle.shared_calls.proofs.write_call.attempt.Goals as goal

pub returns-clause-ends : goal.returns-clause-ends
returns-clause-ends g c =
    let store = g.L.StoreName.store in
    let call = Write c.args.handle c.args.bytes.now in
    let was = c.args.session.now in
    let between = c.validate_first.new.session in
    let ended = c.write_slot in
    ends-then store was between ended.new.session
    (subst (λ (x : Validation OpenObject). EndsLook {X = Unit {0}} store was between call (Ok x)) c.in-Found.is c.in_ok-validated.ensures.ends)
    call ended.result (subst (λ (bytes : List ℕ). EndsAttempt store between ended.new.session (Write c.args.handle bytes) ended.result) c.in_ok-kept.ensures ended.ensures.ends)
