-- The one validation ends the attempt; before it nothing was done.
use Rattle.shared_calls.proofs.KeptSlots.{keeps-untold}
use Rattle.shared_calls.proofs.Waiting.{starves}
use Rattle.serial_calls.proofs.GoingOn.{waits-same}
use Rattle.tee_types.specs.declared.call.Call.TheVariants.{Info}
use Rattle.shared_calls.proofs.info_call.attempt_at_once.Goals as goal

pub returns-in_default-clause-ends : goal.returns-in_default-clause-ends
returns-in_default-clause-ends g c = waits-same g.L.StoreName.store c.args.session.now c.requires.caller

pub returns-then-not-is_loaded-clause-ends : goal.returns-then-not-is_loaded-clause-ends
returns-then-not-is_loaded-clause-ends g c = waits-same g.L.StoreName.store c.args.session.now c.requires.caller

pub returns-in_err-reply-clause-ends : goal.returns-in_err-reply-clause-ends
returns-in_err-reply-clause-ends g c =
    starves g.L.StoreName.store c.args.session.now c.args.session.now (Info c.args.handle) c.from_residual.result c.from_residual.ensures.0
    (waits-same g.L.StoreName.store c.args.session.now c.requires.caller)

pub returns-in_err-told-clause-ends : goal.returns-in_err-told-clause-ends
returns-in_err-told-clause-ends g c =
    starves g.L.StoreName.store c.args.session.now c.args.session.now (Info c.args.handle) c.from_residual-in_err-told.result c.from_residual-in_err-told.ensures.0
    (waits-same g.L.StoreName.store c.args.session.now c.requires.caller)

pub returns-in_err-told-clause-kept : goal.returns-in_err-told-clause-kept
returns-in_err-told-clause-kept g c = keeps-untold g.L.DevicesName.devices c.args.slot.now _ c.in_ok-reply.ensures.kept
