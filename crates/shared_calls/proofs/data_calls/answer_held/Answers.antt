-- What was served is answered, and accuses no device.
use Rattle.std.proofs.Common.{[], subst, sym}
use Rattle.tee_types.specs.Limits.{IsObjectFile}
use Rattle.serial_calls.specs.ChangeReplies.{IsDoneOrRefused}
use Rattle.serial_calls.specs.SlotValues.{SlotValue}
use Rattle.shared_calls.specs.Kept.{KeepsSlot}
use Rattle.shared_calls.proofs.AnsweredSlots.{done-faultless, keeps-shown-served, told-none}
use Rattle.shared_calls.proofs.KeptCalls.{keeps-done}
use Rattle.shared_calls.proofs.Served.{slot-answers}
use Rattle.shared_calls.proofs.data_calls.answer_held.Goals as goal

pub returns-clause-answered : goal.returns-clause-answered
returns-clause-answered g c =
    let done = c.answer_meant in
    slot-answers g.L.StoreName.store c.args.call c.args.session.now done.new.session done.result c.gate.inside.gate done.new.gate c.slot.inside.slot.number done.ensures.served

pub invariant_of-gate : goal.invariant_of-gate
invariant_of-gate g c =
    let done = c.answer_meant in
    let slot = c.slot.inside.slot in
    keeps-done g.F.StoreFile.state g.R.RpmbPort.state g.L.StoreName.store g.L.DevicesName.devices c.gate.inside.gate done.new.gate c.args.session.now done.new.session slot.number
    (subst (λ (x : SlotValue). IsObjectFile x.number) (sym c.slot.view_is) c.requires.kept.object) c.args.call done.result done.ensures.served c.gate.invariant
    (subst IsDoneOrRefused (sym done.ensures.reply) c.requires.kind)

pub returns-clause-kept : goal.returns-clause-kept
returns-clause-kept g c =
    let done = c.answer_meant in
    let old = c.slot.inside.slot in
    let before = g.L.DevicesName.devices in
    keeps-shown-served before old done.new.slot done.ensures.number done.ensures.file g.L.StoreName.store c.gate.inside.gate done.new.gate c.args.session.now done.new.session c.args.call done.result
    done.ensures.whole old.number done.ensures.served c.slot.invariant done.ensures.agreed
    (subst (KeepsSlot before old) (sym (told-none old.number done.result.reply (done-faultless done.result.reply (subst IsDoneOrRefused (sym done.ensures.reply) c.requires.kind))))
    (subst (λ (x : SlotValue). KeepsSlot before x []) (sym c.slot.view_is) c.requires.kept))
