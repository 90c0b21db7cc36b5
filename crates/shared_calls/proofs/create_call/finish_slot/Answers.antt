-- The create ended with what making the object gave, and gate and slot keep what always holds of them.
use Rattle.std.proofs.Common.{ℕ, subst, sym}
use Rattle.serial_calls.proofs.NewObjects.{create_is}
use Rattle.serial_calls.specs.CreateEnds.{MayTellIfUnmade}
use Rattle.serial_calls.specs.Rules.{NewObject, new_object}
use Rattle.serial_calls.specs.Seating.{reseated}
use Rattle.serial_calls.specs.GuardedGates.{GuardedGateValue}
use Rattle.serial_calls.specs.Fits.{SeesWhole}
use Rattle.tee_types.specs.declared.call.Call.{Call}
use Rattle.shared_calls.specs.Attempts.{IsAnswered}
use Rattle.shared_calls.specs.SharedCreate.{told_made}
use Rattle.shared_calls.specs.SharedReady.{IsReady}
use Rattle.shared_calls.proofs.FinishedCreates.{finished-answers, finished-carries, finished-gate, finished-slot}
use Rattle.shared_calls.proofs.SharedHolds.{idle-held, keeps-held, keeps-reseated}
use Rattle.shared_calls.proofs.KeptCalls.{known-card}
use Rattle.shared_calls.proofs.KeptSlots.{own-file}
use Rattle.shared_calls.proofs.SharedObjects.{keeps-unmade}
use Rattle.shared_calls.proofs.SharedViews.{keeps-shown_slot, sees-shown, shown_slot}
use Rattle.shared_calls.proofs.create_call.finish_slot.Goals as goal

pub finish-answer-requires-clause-tells : goal.finish-answer-requires-clause-tells
finish-answer-requires-clause-tells g c =
    let number = c.args.slot.now.number in
    subst (λ (n : ℕ). MayTellIfUnmade n number c.args.made) c.counter.ensures (c.may_tell.ensures c.if-not-may_tell.false number c.requires.made.accuses)

pub returns-clause-answered : goal.returns-clause-answered
returns-clause-answered g c =
    let store = g.L.StoreName.store in
    let was = c.args.session.now in
    let object : NewObject = new_object c.args.call in
    subst (λ (call : Call). IsAnswered store was c.finish-answer.new.session call c.finish-answer.result) (create_is c.args.call c.requires.create)
    (finished-answers g.F.StoreFile.state g.R.RpmbPort.state store (reseated store c.args.slot.now.number c.reserve-file.new.gate) c.finish-answer.new.gate c.args.slot.now.number was c.finish-answer.new.session
    g.E.Entropy.faults object c.args.place.now (g.E.Entropy.is_reliable was.entropy) c.finish-answer.result c.args.made c.finish-answer.ensures.finished)

pub invariant_of-gate : goal.invariant_of-gate
invariant_of-gate g c =
    let store = g.L.StoreName.store in
    let before = g.L.DevicesName.devices in
    let of_file = g.F.StoreFile.state in
    let of_port = g.R.RpmbPort.state in
    let held = c.reserve-file.new.gate in
    keeps-held of_file of_port store before held (keeps-held of_file of_port store before c.gate.inside.gate c.gate.invariant held _ c.reserve-file.ensures.same) c.give_back.new.gate _ c.give_back.ensures

pub returns-then-file-number-clause-kept : goal.returns-then-file-number-clause-kept
returns-then-file-number-clause-kept g c =
    keeps-unmade g.L.DevicesName.devices c.args.slot.now c.give_up.new.slot (told_made c.args.slot.now.number c.args.made) c.give_up.ensures.slot c.requires.kept

pub invariant_of-gate-2 : goal.invariant_of-gate-2
invariant_of-gate-2 g c =
    let store = g.L.StoreName.store in
    let before = g.L.DevicesName.devices in
    let of_file = g.F.StoreFile.state in
    let of_port = g.R.RpmbPort.state in
    let was = c.args.session.now in
    let object : NewObject = new_object c.args.call in
    let number = c.args.slot.now.number in
    let old = c.gate.inside.gate in
    let held = c.reserve-file.new.gate in
    let done = c.finish-answer in
    let idle = idle-held old held _ c.reserve-file.ensures.same (subst (λ (x : GuardedGateValue _ _). IsReady store x was) (sym c.gate.view_is) c.requires.ready).idle in
    let known = known-card of_file of_port held.gate _ c.reveal_invariant.ensures.guarded.card_key idle c.reveal_invariant.ensures.stands in
    keeps-held of_file of_port store before done.new.gate
    (finished-gate of_file of_port store (reseated store number held) done.new.gate number was done.new.session g.E.Entropy.faults object c.args.place.now (g.E.Entropy.is_reliable was.entropy) done.result
    before c.requires.kept.object known (keeps-reseated of_file of_port store before held (keeps-held of_file of_port store before old c.gate.invariant held _ c.reserve-file.ensures.same) number)
    c.args.made c.requires.made.accuses done.ensures.finished)
    c.give_back-2.new.gate _ c.give_back-2.ensures

pub returns-clause-kept : goal.returns-clause-kept
returns-clause-kept g c =
    let store = g.L.StoreName.store in
    let before = g.L.DevicesName.devices in
    let was = c.args.session.now in
    let object : NewObject = new_object c.args.call in
    let number = c.args.slot.now.number in
    let held = c.reserve-file.new.gate in
    let knows = held.journal.knows in
    let done = c.finish-answer in
    let agreed = done.ensures.agreed in
    let slot = shown_slot knows c.args.slot.now agreed in
    let saw : SeesWhole knows slot = sees-shown knows c.args.slot.now agreed in
    let mid = reseated store number held in
    finished-slot g.F.StoreFile.state g.R.RpmbPort.state store mid done.new.gate number was done.new.session g.E.Entropy.faults object c.args.place.now (g.E.Entropy.is_reliable was.entropy) done.result
    before slot done.new.slot done.ensures.number done.ensures.file (record { seat = saw.seat; is = saw.is; whole = saw.whole }) done.ensures.whole c.args.made done.ensures.finished
    (keeps-shown_slot knows c.args.slot.now agreed before (told_made number c.args.made) (own-file store _ c.requires.made.vacant.guarded) c.requires.kept)

pub returns-clause-drawn : goal.returns-clause-drawn
returns-clause-drawn g c = λ first grows carries.
    let store = g.L.StoreName.store in
    let of_file = g.F.StoreFile.state in
    let of_port = g.R.RpmbPort.state in
    let was = c.args.session.now in
    let object : NewObject = new_object c.args.call in
    let number = c.args.slot.now.number in
    let old = c.gate.inside.gate in
    let held = c.reserve-file.new.gate in
    let done = c.finish-answer in
    let idle = idle-held old held _ c.reserve-file.ensures.same (subst (λ (x : GuardedGateValue _ _). IsReady store x was) (sym c.gate.view_is) c.requires.ready).idle in
    let known = known-card of_file of_port held.gate _ c.reveal_invariant.ensures.guarded.card_key idle c.reveal_invariant.ensures.stands in
    finished-carries of_file of_port store (reseated store number held) done.new.gate number was done.new.session g.E.Entropy.faults object c.args.place.now (g.E.Entropy.is_reliable was.entropy) done.result
    known first grows c.args.made done.ensures.finished carries
