-- What the machine answers anyhow is appended; else the session is as the validation left it.
use Rattle.std.proofs.Common.{◌≡◌, ◌∙◌, [], ℕ, Ok, Option, Some, false, length, ◌==◌, subst, sym}
use Rattle.std.proofs.lemmas.Result.{err_from_is_err_and}
use Rattle.call_rules.specs.Objects.{IsRightful}
use Rattle.call_rules.specs.declared.decision.OpenObject.{OpenObject}
use Rattle.serial_calls.proofs.MeantChanges.{meant_write}
use Rattle.serial_calls.proofs.ChangeRefusals.{write_refused_so}
use Rattle.serial_calls.specs.Meant.{IsMeantCall}
use Rattle.serial_calls.specs.declared.PlacedReply.{PlacedReply}
use Rattle.store_model.specs.Data.{write_refusals}
use Rattle.store_model.specs.Machine.{first_refusal}
use Rattle.store_model.specs.Object.{Contents}
use Rattle.tee_types.specs.Rights.{write_bit}
use Rattle.tee_types.specs.declared.call.Call.{Call}
use Rattle.tee_types.specs.declared.call.Call.TheVariants.{Write}
use Rattle.shared_calls.specs.declared.validation.Validation.{Validation}
use Rattle.shared_calls.specs.Validations.{EndsLook, IfFound}
use Rattle.shared_calls.specs.Attempts.{EndsAttempt, IsAnswered}
use Rattle.serial_calls.specs.SessionEvents.{IsWaiting}
use Rattle.shared_calls.proofs.Waiting.{answers-then}
use Rattle.serial_calls.proofs.GoingOn.{waits-then}
use Rattle.shared_calls.proofs.write_call.validate_first.Goals as goal

pub answer_held-requires-clause-kind : goal.answer_held-requires-clause-kind
answer_held-requires-clause-kind g c = write_refused_so c.in-Found.found.handle.position c.len.result c.in-Some.reply c.in-Some.ensures.refused

pub answer_held-requires-clause-meant : goal.answer_held-requires-clause-meant
answer_held-requires-clause-meant g c = λ m matches opened.
    let gate = c.validate.new.gate.gate in
    let s = c.validate.new.session in
    let found = c.in-Found.found in
    let reply = c.in-Some.reply in
    let rightful : IsRightful gate.dir.dir.entries s.state c.args.handle write_bit found =
    subst (λ (x : Validation OpenObject). IfFound {X = Unit {0}} (Ok x) (IsRightful gate.dir.dir.entries s.state c.args.handle write_bit)) c.in-Found.is c.in_ok-ended.ensures.found in
    let some : (length c.args.bytes.now == 0) ≡ false =
    subst (λ (x : Validation OpenObject). IfFound {X = Unit {0}} (Ok x) (λ found. (length c.args.bytes.now == 0) ≡ false)) c.in-Found.is c.in_ok-ended.ensures.some in
    let refused = subst (λ (n : ℕ). (x : Contents) → first_refusal (write_refusals x found.handle.position n) ≡ Some reply) c.len.ensures c.in-Some.ensures.refused in
    subst (λ (call : Call). IsMeantCall m s.number found.held.entry call reply) (sym (c.in_ok-kept.ensures ∙ c.requires.call))
    (meant_write gate.dir.dir.entries gate.open_handles s.state m s.number c.args.handle found matches opened rightful c.args.bytes.now some reply refused)

pub returns-in-Some-clause-ends : goal.returns-in-Some-clause-ends
returns-in-Some-clause-ends g c =
    let store = g.L.StoreName.store in
    let call = Write c.args.handle c.args.bytes.now in
    let was = c.args.session.now in
    let between = c.validate.new.session in
    let now = c.answer_held.new.session in
    answers-then store was between now (subst (λ (x : Validation OpenObject). EndsLook {X = Unit {0}} store was between call (Ok x)) c.in-Found.is c.in_ok-ended.ensures.ends) call c.in-Some-answer_held.answer
    (subst (λ (x : Call). IsAnswered store between now x c.in-Some-answer_held.answer) (c.in_ok-kept.ensures ∙ c.requires.call) c.in-Some-answer_held.ensures.answered)

pub returns-in_err-answer-clause-ends : goal.returns-in_err-answer-clause-ends
returns-in_err-answer-clause-ends g c =
    let store = g.L.StoreName.store in
    let was = c.args.session.now in
    let between = c.validate.new.session in
    let validated : IsWaiting store was between =
    subst (λ (x : Validation OpenObject). EndsLook {X = Unit {0}} store was between (Write c.args.handle c.args.bytes.now) (Ok x)) c.in-Found.is c.in_ok-ended.ensures.ends in
    let p = err_from_is_err_and c.from_residual-in_err-answer.result c.from_residual-in_err-answer.ensures.1 in
    rw (p.1) (waits-then store was between c.answer_spent.new.session validated c.in_err-answer.ensures.ends)

pub returns-in_default-2-clause-ends : goal.returns-in_default-2-clause-ends
returns-in_default-2-clause-ends g c =
    let store = g.L.StoreName.store in
    let was = c.args.session.now in
    let between = c.validate.new.session in
    let now = c.answer_spent.new.session in
    let validated : IsWaiting store was between =
    subst (λ (x : Validation OpenObject). EndsLook {X = Unit {0}} store was between (Write c.args.handle c.args.bytes.now) (Ok x)) c.in-Found.is c.in_ok-ended.ensures.ends in
    waits-then store was between now validated
    (subst (λ (o : Option PlacedReply). EndsAttempt {X = Unit {0}} store between now (Write c.args.handle c.in_ok-copied.copied) (Ok o)) c.in_default-2.is c.in_ok-answer.ensures.ends)

pub returns-then-not-catch_up_held-clause-kept : goal.returns-then-not-catch_up_held-clause-kept
returns-then-not-catch_up_held-clause-kept g c = c.catch_up_held.ensures.kept [] c.requires.kept

pub returns-clause-kept : goal.returns-clause-kept
returns-clause-kept g c = c.catch_up_held.ensures.kept [] c.requires.kept
