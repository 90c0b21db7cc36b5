use Rattle.std.proofs.Common.{Err, refl, sym, ap, ◌∙◌, subst, arith}
use Rattle.node_image.specs.declared.node.RootRef.{RootRef}
use Rattle.object_slots.specs.declared.fault.SlotFault.{SlotFault}
use Rattle.object_slots.specs.Loads.{LoadsObject}
use Rattle.object_slots.specs.SlotValues.{apart, free}
use Rattle.object_slots.proofs.LoadAnswers.{load_refused}
use Rattle.object_slots.proofs.StepLaws.{read_steps}
use Rattle.object_slots.proofs.loading.load_object.Goals as goal

pub returns-in-Err-clause-loads : goal.returns-in-Err-clause-loads
returns-in-Err-clause-loads g c =
    let old = g.F.StoreFile.state c.args.file in
    let new = g.F.StoreFile.state c.in-Err.field-0.file in
    let e = c.in-Err.ensures in
    subst (λ (f : SlotFault). LoadsObject old new c.args.tsk.now c.args.entry.now free {A = Unit {0}} (Err f)) (sym c.load_fault.ensures)
    (load_refused old new c.args.tsk.now c.args.entry.now (Unit {0}) c.in-Err.field-0.fault e.kind e.differs e.fault e.damaged (g.met.F.StoreFile.sound c.in-Err.field-0.file) e.rests_err e.cause)

pub returns-in-Ok-clause-loads : goal.returns-in-Ok-clause-loads
returns-in-Ok-clause-loads g c =
    let e = c.in-Ok.ensures in
    rw c.new.ensures (record {
      leaves = (
        apart c.in-Ok.object,
        refl,
        record {
          root_is = e.root;
          key = e.key;
          size = e.size;
          attributes = e.attributes;
          verified = e.verified;
          seen = e.seen;
          bytes = e.bytes;
          first = e.first;
          loads = e.loaded;
          object = e.object;
          faultless = e.faultless;
        },
      );
      refused = tt;
      rests = e.rests;
      cause = e.passed;
      three = e.three;
      steps = read_steps (g.F.StoreFile.state c.args.file) (g.F.StoreFile.state c.in-Ok.object.tree.file) (g.met.F.StoreFile.sound c.in-Ok.object.tree.file) e.rests;
    })

pub returns-in-Ok-clause-content : goal.returns-in-Ok-clause-content
returns-in-Ok-clause-content g c =
    let e = c.in-Ok.ensures in
    rw c.new.ensures (e.idle, (omega (arith, ap (λ (r : RootRef). r.version) e.root, c.requires.form.version), ap (λ (r : RootRef). r.format) e.root ∙ c.requires.current))
