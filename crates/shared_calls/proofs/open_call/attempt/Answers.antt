-- The validations follow each other.
use Rattle.std.proofs.Common.{subst, Ok}
use Rattle.shared_calls.specs.declared.validation.Validation.{Validation}
use Rattle.dir_index.specs.declared.Held.{Held}
use Rattle.tee_types.specs.declared.call.Call.TheVariants.{Open}
use Rattle.shared_calls.specs.Validations.{EndsLook}
use Rattle.shared_calls.proofs.Waiting.{ends-then}
use Rattle.shared_calls.proofs.open_call.attempt.Goals as goal

pub returns-clause-ends : goal.returns-clause-ends
returns-clause-ends g c =
    let store = g.L.StoreName.store in
    let call = Open c.args.id c.args.flags in
    let was = c.args.session.now in
    let between = c.validate_first.new.session in
    ends-then store was between c.validate_last.new.session
    (subst (λ (x : Validation Held). EndsLook {X = Unit {0}} store was between call (Ok x)) c.in-Found.is c.in_ok-validated.ensures.ends)
    call c.validate_last.result c.validate_last.ensures.ends
