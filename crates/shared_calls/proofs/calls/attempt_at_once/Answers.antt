-- The call was answered, or goes the long way, as the attempt of its kind says.
use Rattle.std.proofs.Common.{subst, sym}
use Rattle.tee_types.specs.declared.call.Call.{Call}
use Rattle.shared_calls.specs.Attempts.{EndsAttempt}
use Rattle.serial_calls.proofs.GoingOn.{waits-same}
use Rattle.shared_calls.proofs.calls.attempt_at_once.Goals as goal

pub returns-in-Read-clause-ends : goal.returns-in-Read-clause-ends
returns-in-Read-clause-ends g c =
    let after = c.attempt_at_once in
    subst (λ (call : Call). EndsAttempt g.L.StoreName.store c.args.session.now after.new.session call after.result) (sym c.in-Read.is) after.ensures.ends

pub returns-in-Info-clause-ends : goal.returns-in-Info-clause-ends
returns-in-Info-clause-ends g c =
    let after = c.attempt_at_once-in-Info in
    subst (λ (call : Call). EndsAttempt g.L.StoreName.store c.args.session.now after.new.session call after.result) (sym c.in-Info.is) after.ensures.ends

pub returns-in_default-clause-ends : goal.returns-in_default-clause-ends
returns-in_default-clause-ends g c = waits-same g.L.StoreName.store c.args.session.now c.requires.caller
