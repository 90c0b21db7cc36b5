use Rattle.std.proofs.Common.{sym, ap, subst}
use Rattle.node_image.specs.References.{IsCurrent}
use Rattle.node_image.specs.declared.node.RootRef.{RootRef}
use Rattle.block_file.specs.Reads.{IsChangeFault}
use Rattle.object_slots.specs.SlotInside.{file_in, holding_in}
use Rattle.object_slots.specs.SlotStages.{SettlesObject, resize_change}
use Rattle.object_slots.specs.SlotValues.{HeldObject, apart, live}
use Rattle.object_slots.proofs.ContentLaws.{next_current, sound_in}
use Rattle.object_slots.proofs.FaultLaws.{causes_refused, causes_then}
use Rattle.object_slots.proofs.SettleAnswers.{apart_same}
use Rattle.object_slots.proofs.StageAnswers.{stages_refused, stages_then}
use Rattle.object_slots.proofs.staging.truncate_object.Goals as goal

pub settle_object-requires-clause-current : goal.settle_object-requires-clause-current
settle_object-requires-clause-current g c =
    let o = c.args.object in
    let p = c.open_truncate.new.object in
    subst (λ (h : HeldObject). IsCurrent h.tree.root) (sym (apart_same {F = g.row.F.Denot} o p c.open_truncate.ensures.same)) c.requires.current

pub settle_object-requires-clause-next_current : goal.settle_object-requires-clause-next_current
settle_object-requires-clause-next_current g c = next_current c.open_truncate.new.object.tree.stage c.args.object.tree.root _ c.requires.current c.in-Ok.ensures.opens.next c.in-Ok.ensures.opens.format

pub returns-in-Ok-clause-stages : goal.returns-in-Ok-clause-stages
returns-in-Ok-clause-stages g c =
    let state = g.F.StoreFile.state in
    let o = c.args.object in
    let p = c.open_truncate.new.object in
    let r = c.settle_object.result in
    let settles : SettlesObject (state p.tree.file) (file_in state r.0) (apart o) p.tree.stage (holding_in r.0) r.1 =
    subst (λ (h : HeldObject). SettlesObject (state p.tree.file) (file_in state r.0) h p.tree.stage (holding_in r.0) r.1) (apart_same {F = g.row.F.Denot} o p c.open_truncate.ensures.same) c.settle_object.ensures.settles in
    stages_then (apart o) (resize_change (apart o) c.args.size) _ (state o.tree.file) (state p.tree.file) (file_in state r.0) p.tree.stage (holding_in r.0) c.in-Ok.ensures.opens r.1
    (g.met.F.StoreFile.sound o.tree.file) (sound_in state g.met.F.StoreFile.sound r.0) c.requires.current settles

pub returns-in-Ok-clause-causes : goal.returns-in-Ok-clause-causes
returns-in-Ok-clause-causes g c =
    let state = g.F.StoreFile.state in
    let o = c.args.object in
    let p = c.open_truncate.new.object in
    let r = c.settle_object.result in
    causes_then _ _ _ _ IsChangeFault (state o.tree.file) (state p.tree.file) (file_in state r.0) (Unit {0}) RootRef tt r.1
    c.in-Ok.ensures.opens.keeps.goes_on c.in-Ok.ensures.causes c.settle_object.ensures.settles.cause c.settle_object.ensures.settles.kind

pub returns-in-Err-clause-content : goal.returns-in-Err-clause-content
returns-in-Err-clause-content g c = rw c.new.ensures (
  c.in-Err.ensures.opens.none,
  subst (λ (h : HeldObject). IsCurrent h.tree.root) (sym (apart_same {F = g.row.F.Denot} c.args.object c.open_truncate.new.object c.open_truncate.ensures.same)) c.requires.current,
)

pub returns-in-Err-clause-stages : goal.returns-in-Err-clause-stages
returns-in-Err-clause-stages g c =
    let state = g.F.StoreFile.state in
    let o = c.args.object in
    let p = c.open_truncate.new.object in
    let same = ap (λ (h : HeldObject). live h) (apart_same {F = g.row.F.Denot} o p c.open_truncate.ensures.same) in
    rw (c.slot_fault.ensures, c.new.ensures) (stages_refused (apart o) (resize_change (apart o) c.args.size) _ (state o.tree.file) (state p.tree.file) p.tree.stage (live (apart p)) (Unit {0}) c.in-Err.fault
    (g.met.F.StoreFile.sound o.tree.file) (g.met.F.StoreFile.sound p.tree.file) c.requires.current c.in-Err.ensures.causes.kind same c.in-Err.ensures.opens)

pub returns-in-Err-clause-causes : goal.returns-in-Err-clause-causes
returns-in-Err-clause-causes g c =
    let state = g.F.StoreFile.state in
    rw (c.slot_fault.ensures, c.new.ensures) (causes_refused _ _ _ _ IsChangeFault (state c.args.object.tree.file) (state c.open_truncate.new.object.tree.file) (Unit {0}) RootRef c.in-Err.fault c.in-Err.ensures.causes)
