-- What the machine answers anyhow.
use Rattle.std.proofs.Common.{[], Ok, Option, refl, subst}
use Rattle.std.proofs.lemmas.Result.{err_from_is_err_and}
use Rattle.call_rules.specs.Objects.{IsRightful}
use Rattle.call_rules.specs.declared.decision.OpenObject.{OpenObject}
use Rattle.serial_calls.proofs.MeantChanges.{meant_same, meant_truncate}
use Rattle.serial_calls.proofs.ChangeRefusals.{truncate_refused_so}
use Rattle.serial_calls.specs.declared.PlacedReply.{PlacedReply}
use Rattle.tee_types.specs.Rights.{write_bit}
use Rattle.tee_types.specs.declared.call.Call.TheVariants.{Truncate}
use Rattle.shared_calls.specs.declared.validation.Validation.{Validation}
use Rattle.shared_calls.specs.Validations.{EndsLook, IfFound}
use Rattle.shared_calls.specs.Attempts.{EndsAttempt}
use Rattle.serial_calls.specs.SessionEvents.{IsWaiting}
use Rattle.serial_calls.proofs.GoingOn.{waits-then}
use Rattle.shared_calls.proofs.truncate_call.validate_first.Goals as goal

pub answer_held-requires-clause-kind : goal.answer_held-requires-clause-kind
answer_held-requires-clause-kind g c = truncate_refused_so c.args.size c.in-Some.reply c.in-Some.ensures.refused

pub answer_held-requires-clause-meant : goal.answer_held-requires-clause-meant
answer_held-requires-clause-meant g c = λ m matches opened.
    let gate = c.validate.new.gate.gate in
    let s = c.validate.new.session in
    let found = c.in-Found.found in
    let rightful : IsRightful gate.dir.dir.entries s.state c.args.handle write_bit found =
    subst (λ (x : Validation OpenObject). IfFound {X = Unit {0}} (Ok x) (IsRightful gate.dir.dir.entries s.state c.args.handle write_bit)) c.in-Found.is c.in_ok-ended.ensures.found in
    meant_truncate gate.dir.dir.entries gate.open_handles s.state m s.number c.args.handle found matches opened rightful c.args.size c.in-Some.reply c.in-Some.ensures.refused

pub answer_held-requires-then-size-found-clause-meant : goal.answer_held-requires-then-size-found-clause-meant
answer_held-requires-then-size-found-clause-meant g c = λ m matches opened.
    let gate = c.validate.new.gate.gate in
    let s = c.validate.new.session in
    let found = c.in-Found.found in
    let rightful : IsRightful gate.dir.dir.entries s.state c.args.handle write_bit found =
    subst (λ (x : Validation OpenObject). IfFound {X = Unit {0}} (Ok x) (IsRightful gate.dir.dir.entries s.state c.args.handle write_bit)) c.in-Found.is c.in_ok-ended.ensures.found in
    meant_same gate.dir.dir.entries gate.open_handles s.state m s.number c.args.handle found matches opened rightful c.args.size c.if-size-found.true (c.in_default-truncate_refusal.ensures.fits refl)

pub returns-in_err-answer-clause-ends : goal.returns-in_err-answer-clause-ends
returns-in_err-answer-clause-ends g c =
    let store = g.L.StoreName.store in
    let was = c.args.session.now in
    let between = c.validate.new.session in
    let validated : IsWaiting store was between =
    subst (λ (x : Validation OpenObject). EndsLook {X = Unit {0}} store was between (Truncate c.args.handle c.args.size) (Ok x)) c.in-Found.is c.in_ok-ended.ensures.ends in
    let p = err_from_is_err_and c.from_residual-in_err-answer.result c.from_residual-in_err-answer.ensures.1 in
    rw (p.1) (waits-then store was between c.answer_spent.new.session validated c.in_err-answer.ensures.ends)

pub returns-in_default-2-clause-ends : goal.returns-in_default-2-clause-ends
returns-in_default-2-clause-ends g c =
    let store = g.L.StoreName.store in
    let was = c.args.session.now in
    let between = c.validate.new.session in
    let now = c.answer_spent.new.session in
    let validated : IsWaiting store was between =
    subst (λ (x : Validation OpenObject). EndsLook {X = Unit {0}} store was between (Truncate c.args.handle c.args.size) (Ok x)) c.in-Found.is c.in_ok-ended.ensures.ends in
    waits-then store was between now validated
    (subst (λ (o : Option PlacedReply). EndsAttempt {X = Unit {0}} store between now (Truncate c.args.handle c.args.size) (Ok o)) c.in_default-2.is c.in_ok-answer.ensures.ends)

pub returns-then-not-catch_up_held-clause-kept : goal.returns-then-not-catch_up_held-clause-kept
returns-then-not-catch_up_held-clause-kept g c = c.catch_up_held.ensures.kept [] c.requires.kept

pub returns-clause-kept : goal.returns-clause-kept
returns-clause-kept g c = c.catch_up_held.ensures.kept [] c.requires.kept
