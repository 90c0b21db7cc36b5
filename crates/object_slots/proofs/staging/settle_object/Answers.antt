use Rattle.std.proofs.Common.{Err, sym, subst}
use Rattle.object_slots.specs.declared.fault.SlotFault.{SlotFault}
use Rattle.object_slots.specs.SlotStages.{SettlesObject}
use Rattle.object_slots.specs.SlotValues.{apart, live}
use Rattle.object_slots.proofs.SettleAnswers.{settled_content, settles_err, settles_ok}
use Rattle.object_slots.proofs.staging.settle_object.Goals as goal

pub returns-in-Ok-clause-content : goal.returns-in-Ok-clause-content
returns-in-Ok-clause-content g c =
    let e = c.settle.ensures in
    rw c.new.ensures (settled_content {F = g.row.F.Denot} c.args.object c.settle.new.self e.same c.in-Ok.root c.requires.open c.in-Ok.ensures.settled c.requires.current c.requires.next_current)

pub returns-in-Ok-clause-settles : goal.returns-in-Ok-clause-settles
returns-in-Ok-clause-settles g c =
    let e = c.settle.ensures in
    let r = c.in-Ok.ensures in
    let state = g.F.StoreFile.state in
    rw c.new.ensures (settles_ok {F = g.row.F.Denot} c.args.object c.settle.new.self e.same c.in-Ok.root c.requires.open r.settled
    (state c.args.object.tree.file) (state c.settle.new.self.tree.file) r.synced e.reads e.keeps r.cause r.next_firm)

pub returns-in-Err-clause-settles : goal.returns-in-Err-clause-settles
returns-in-Err-clause-settles g c =
    let e = c.settle.ensures in
    let r = c.in-Err.ensures in
    let state = g.F.StoreFile.state in
    let q = c.drop_stage.new.self in
    rw c.new-in-Err.ensures (subst (λ (f : SlotFault). SettlesObject (state c.args.object.tree.file) (state q.tree.file) (apart c.args.object) c.args.object.tree.stage (live (apart q)) (Err f)) (sym c.slot_fault.ensures)
    (settles_err {F = g.row.F.Denot} c.args.object c.settle.new.self e.same state q c.in-Err.fault c.drop_stage.ensures.same r.fault e.reads e.keeps r.cause))
