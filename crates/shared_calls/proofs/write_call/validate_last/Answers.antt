-- What was staged is brought where the object is found again.
use Rattle.std.proofs.Common.{Ok, length, subst, sym, ℕ, ◌+◌, ◌≡◌, ◌≤◌}
use Rattle.serial_calls.specs.ChangeStaging.{writing}
use Rattle.shared_calls.specs.SharedChange.{HasStaged}
use Rattle.call_rules.specs.declared.decision.OpenObject.{OpenObject}
use Rattle.shared_calls.specs.declared.validation.Validation.{Validation}
use Rattle.shared_calls.specs.Validations.{EndsLook, IfFound}
use Rattle.tee_types.specs.declared.call.Call.TheVariants.{Write}
use Rattle.shared_calls.proofs.Waiting.{answers-then}
use Rattle.shared_calls.proofs.write_call.validate_last.Goals as goal

pub returns-clause-ends : goal.returns-clause-ends
returns-clause-ends g c =
    let store = g.L.StoreName.store in
    let call = Write c.args.handle c.args.bytes in
    let was = c.args.session.now in
    let between = c.validate_again.new.session in
    let done = c.answer_staged in
    answers-then store was between done.new.session
    (subst (λ (x : Validation OpenObject). EndsLook {X = Unit {0}} store was between call (Ok x)) c.in-Ok-Found.field-0-is c.in-Ok-Found.ensures.ends) call done.result done.ensures.answered

pub answer_staged-requires-clause-staged : goal.answer_staged-requires-clause-staged
answer_staged-requires-clause-staged g c =
    let at = subst (λ (x : Validation OpenObject). IfFound {X = Unit {0}} (Ok x) (λ found. found.handle.position ≡ c.args.at)) c.in-Ok-Found.field-0-is c.in-Ok-Found.ensures.at in
    subst (λ (n : ℕ). HasStaged g.L.StoreName.store c.args.slot.now (writing n c.args.bytes) c.args.staged) (sym at) c.requires.staged

pub answer_staged-requires-clause-fits : goal.answer_staged-requires-clause-fits
answer_staged-requires-clause-fits g c =
    let at = subst (λ (x : Validation OpenObject). IfFound {X = Unit {0}} (Ok x) (λ found. found.handle.position ≡ c.args.at)) c.in-Ok-Found.field-0-is c.in-Ok-Found.ensures.at in
    subst (λ (n : ℕ). n + length c.args.bytes ≤ 1044480) (sym at) c.requires.fits
