-- What the file gave was answered, and the slot keeps its counts.
use Rattle.std.proofs.Common.{[], Err, Ok, refl, subst, sym}
use Rattle.std.proofs.lemmas.Result.{err_from_is_err_and}
use Rattle.tee_types.specs.Limits.{IsObjectFile}
use Rattle.serial_calls.specs.GuardedGates.{GuardedGateValue}
use Rattle.serial_calls.specs.SlotValues.{SlotValue}
use Rattle.tee_types.specs.declared.call.Call.TheVariants.{Write}
use Rattle.shared_calls.specs.Kept.{KeepsGate, KeepsSlot}
use Rattle.shared_calls.specs.SharedChange.{OnlyReads}
use Rattle.shared_calls.proofs.KeptCalls.{keeps-told}
use Rattle.shared_calls.proofs.Served.{slot-answers}
use Rattle.shared_calls.proofs.SpentCalls.{keeps-spent, reads-none, stays-waiting, told-undrawn}
use Rattle.shared_calls.proofs.write_call.answer_spent.Goals as goal

pub invariant_of-gate : goal.invariant_of-gate
invariant_of-gate g c =
    subst (λ (x : GuardedGateValue g.row.F.Denot g.row.R.Denot). KeepsGate g.F.StoreFile.state g.R.RpmbPort.state g.L.StoreName.store g.L.DevicesName.devices x)
    (sym c.in_err-answer.ensures.served.0) c.gate.invariant

pub invariant_of-gate-2 : goal.invariant_of-gate-2
invariant_of-gate-2 g c =
    let old = c.slot.inside.slot in
    keeps-told g.F.StoreFile.state g.R.RpmbPort.state g.L.StoreName.store g.L.DevicesName.devices c.gate.inside.gate c.write_spent.new.gate c.args.session.now c.write_spent.new.session old.number
    (subst (λ (x : SlotValue). IsObjectFile x.number) (sym c.slot.view_is) c.requires.kept.object) (Write c.args.handle c.args.bytes) c.in_ok-answer.answer c.in_ok-answer.ensures.served c.gate.invariant old.file
    c.write_spent.new.slot.file c.in_ok-answer.ensures.cause

pub returns-then-entry-number-clause-ends : goal.returns-then-entry-number-clause-ends
returns-then-entry-number-clause-ends g c = stays-waiting g.L.StoreName.store c.args.session.now c.args.session.now c.requires.ready.calm.caller refl

pub returns-then-entry-number-clause-reads : goal.returns-then-entry-number-clause-reads
returns-then-entry-number-clause-reads g c = reads-none c.args.slot.now.file c.args.slot.now.file c.args.session.now c.args.session.now refl refl

pub returns-in_err-answer-clause-ends : goal.returns-in_err-answer-clause-ends
returns-in_err-answer-clause-ends g c =
    let p = err_from_is_err_and c.from_residual.result c.from_residual.ensures.1 in
    rw (p.1) (stays-waiting g.L.StoreName.store c.args.session.now c.write_spent.new.session c.requires.ready.calm.caller c.in_err-answer.ensures.served.1)

pub returns-in_err-answer-clause-reads : goal.returns-in_err-answer-clause-reads
returns-in_err-answer-clause-reads g c =
    subst (λ (x : SlotValue). OnlyReads x.file c.write_spent.new.slot.file c.args.session.now c.write_spent.new.session) c.slot.view_is
    (record { file = c.in_err-answer.ensures.rests; entropy = c.in_err-answer.ensures.entropy })

pub returns-in_err-answer-clause-kept : goal.returns-in_err-answer-clause-kept
returns-in_err-answer-clause-kept g c =
    let done = c.in_err-answer.ensures in
    keeps-spent g.L.StoreName.store g.L.DevicesName.devices c.gate.inside.gate c.write_spent.new.gate c.args.session.now c.write_spent.new.session (Write c.args.handle c.args.bytes) c.slot.inside.slot c.write_spent.new.slot done.number c.slot.invariant
    done.agreed done.rests done.whole (subst (λ (s : SlotValue). KeepsSlot g.L.DevicesName.devices s []) (sym c.slot.view_is) c.requires.kept) {X = Unit {0}} (Err tt) done.served tt

pub returns-clause-ends : goal.returns-clause-ends
returns-clause-ends g c =
    slot-answers g.L.StoreName.store (Write c.args.handle c.args.bytes) c.args.session.now c.write_spent.new.session c.in_ok-answer.answer c.gate.inside.gate c.write_spent.new.gate c.slot.inside.slot.number c.in_ok-answer.ensures.served

pub returns-clause-reads : goal.returns-clause-reads
returns-clause-reads g c =
    subst (λ (x : SlotValue). OnlyReads x.file c.write_spent.new.slot.file c.args.session.now c.write_spent.new.session) c.slot.view_is
    (record { file = c.in_ok-answer.ensures.rests; entropy = c.in_ok-answer.ensures.entropy })

pub returns-clause-kept : goal.returns-clause-kept
returns-clause-kept g c =
    let done = c.in_ok-answer.ensures in
    keeps-spent g.L.StoreName.store g.L.DevicesName.devices c.gate.inside.gate c.write_spent.new.gate c.args.session.now c.write_spent.new.session (Write c.args.handle c.args.bytes) c.slot.inside.slot c.write_spent.new.slot done.number c.slot.invariant
    done.agreed done.rests done.whole (subst (λ (s : SlotValue). KeepsSlot g.L.DevicesName.devices s []) (sym c.slot.view_is) c.requires.kept) {X = Unit {0}} (Ok c.in_ok-answer.answer) done.served done.cause

pub returns-clause-undrawn : goal.returns-clause-undrawn
returns-clause-undrawn g c =
    told-undrawn c.slot.inside.slot.file c.write_spent.new.slot.file c.slot.inside.slot.number (g.E.Entropy.faults c.args.session.now.entropy) (g.E.Entropy.faults c.write_spent.new.session.entropy) c.in_ok-answer.answer.reply
    c.in_ok-answer.ensures.cause
