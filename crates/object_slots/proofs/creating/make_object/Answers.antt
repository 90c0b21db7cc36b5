use Rattle.std.proofs.Common.{Err, refl, sym, subst}
use Rattle.disk_model.proofs.Laws.{keeps_then}
use Rattle.htree_file.specs.Making.{Nowhere}
use Rattle.object_slots.specs.declared.fault.SlotFault.{SlotFault}
use Rattle.object_slots.specs.Makes.{MakesObject}
use Rattle.object_slots.specs.SlotValues.{apart, free}
use Rattle.object_slots.proofs.SlotObjects.{cut_refused, is_made, make_refused}
use Rattle.object_slots.proofs.StepLaws.{taker_steps}
use Rattle.object_slots.proofs.creating.make_object.Goals as goal

pub returns-in-Ok-make-clause-makes : goal.returns-in-Ok-make-clause-makes
returns-in-Ok-make-clause-makes g c =
    let old = g.F.StoreFile.state c.args.file in
    let mid = g.F.StoreFile.state c.cut_file.new.file in
    let new = g.F.StoreFile.state c.in-Ok-make.object.tree.file in
    let e = c.in-Ok-make.ensures in
    let cut = c.in-Ok.ensures in
    rw c.new.ensures (record {
      leaves = (
        apart c.in-Ok-make.object,
        refl,
        is_made {F = g.row.F.Denot} old mid new c.in-Ok-make.object c.in-Ok-make.root c.args.tsk.now c.args.attributes.now c.args.bytes.now
            cut.keeps.goes_on e.root.0 e.root.1 e.root.2 e.attributes e.size e.key e.verified e.flags e.seals e.loaded e.object e.firm,
      );
      cuts = record { cut = mid; is_cut = cut.cut; keeps = e.keeps };
      keeps = keeps_then Nowhere old mid new cut.keeps e.keeps;
      sound = tt;
      steps = taker_steps old new (g.met.F.StoreFile.sound c.in-Ok-make.object.tree.file) (keeps_then Nowhere old mid new cut.keeps e.keeps);
    })

pub returns-in-Err-make-clause-makes : goal.returns-in-Err-make-clause-makes
returns-in-Err-make-clause-makes g c =
    let old = g.F.StoreFile.state c.args.file in
    let mid = g.F.StoreFile.state c.cut_file.new.file in
    let new = g.F.StoreFile.state c.in-Err-make.field-0.file in
    let e = c.in-Err-make.ensures in
    subst (λ (f : SlotFault). MakesObject old new c.args.tsk.now c.args.attributes.now c.args.bytes.now free (Err f)) (sym c.slot_fault.ensures)
    (make_refused old mid new c.args.tsk.now c.args.attributes.now c.args.bytes.now c.in-Err-make.field-0.fault (g.met.F.StoreFile.sound c.in-Err-make.field-0.file) c.in-Ok.ensures.keeps e.keeps_err e.fault)

pub returns-in-Err-clause-makes : goal.returns-in-Err-clause-makes
returns-in-Err-clause-makes g c =
    cut_refused (g.F.StoreFile.state c.args.file) (g.F.StoreFile.state c.cut_file.new.file) c.args.tsk.now c.args.attributes.now c.args.bytes.now c.in-Err.fault
    (g.met.F.StoreFile.sound c.cut_file.new.file) c.cut_file.ensures.keeps c.in-Err.ensures.kind
