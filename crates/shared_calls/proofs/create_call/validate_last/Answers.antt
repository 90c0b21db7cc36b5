-- The create was answered, or has to be begun again; and what was made and not brought went.
use Rattle.std.proofs.Common.{Ok, subst}
use Rattle.std.specs.declared.alloc.AllocError.{AllocError}
use Rattle.call_rules.specs.declared.decision.NewPlace.{NewPlace}
use Rattle.shared_calls.specs.declared.validation.Validation.{Validation}
use Rattle.shared_calls.specs.SharedCreate.{told_made}
use Rattle.shared_calls.specs.Validations.{EndsLook}
use Rattle.serial_calls.specs.SessionEvents.{IsWaiting}
use Rattle.shared_calls.proofs.FinishedCreates.{finish-ends}
use Rattle.shared_calls.proofs.SharedObjects.{keeps-unmade}
use Rattle.shared_calls.proofs.create_call.validate_last.Goals as goal

pub returns-clause-ends : goal.returns-clause-ends
returns-clause-ends g c =
    let store = g.L.StoreName.store in
    let call = c.args.call in
    let was = c.args.session.now in
    let between = c.validate.new.session in
    let validated : IsWaiting store was between =
    subst (λ (x : Validation NewPlace). EndsLook {X = Unit {0}} store was between call (Ok x)) c.in-Ok-Found.field-0-is c.in-Ok-Found.ensures.ends in
    finish-ends AllocError store was between c.finish_slot.new.session validated call c.finish_slot.result c.finish_slot.ensures.answered c.finish_slot.ensures.waits

pub returns-in-Ok-Answered-clause-kept : goal.returns-in-Ok-Answered-clause-kept
returns-in-Ok-Answered-clause-kept g c =
    keeps-unmade g.L.DevicesName.devices c.args.slot.now c.give_up.new.slot (told_made c.args.slot.now.number c.args.made) c.give_up.ensures.slot c.requires.kept

pub returns-in-Ok-Retry-clause-kept : goal.returns-in-Ok-Retry-clause-kept
returns-in-Ok-Retry-clause-kept g c =
    keeps-unmade g.L.DevicesName.devices c.args.slot.now c.give_up-in-Ok-Retry.new.slot (told_made c.args.slot.now.number c.args.made) c.give_up-in-Ok-Retry.ensures.slot c.requires.kept

pub returns-in-Err-clause-kept : goal.returns-in-Err-clause-kept
returns-in-Err-clause-kept g c =
    keeps-unmade g.L.DevicesName.devices c.args.slot.now c.give_up-in-Err.new.slot (told_made c.args.slot.now.number c.args.made) c.give_up-in-Err.ensures.slot c.requires.kept
