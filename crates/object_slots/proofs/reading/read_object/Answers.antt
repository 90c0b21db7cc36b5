use Rattle.std.proofs.Common.{Err, sym, subst}
use Rattle.object_slots.specs.declared.fault.SlotFault.{SlotFault}
use Rattle.object_slots.specs.SlotReads.{ReadsObject}
use Rattle.object_slots.specs.SlotValues.{apart}
use Rattle.object_slots.proofs.SlotReadAnswers.{read_refused}
use Rattle.object_slots.proofs.StepLaws.{read_steps}
use Rattle.object_slots.proofs.reading.read_object.Goals as goal

pub returns-in-Err-clause-reads : goal.returns-in-Err-clause-reads
returns-in-Err-clause-reads g c =
    let old = g.F.StoreFile.state c.args.object.now.tree.file in
    let new = g.F.StoreFile.state c.read.new.self.tree.file in
    let o = apart c.args.object.now in
    let e = c.in-Err.ensures in
    let r = c.read.ensures in
    subst (λ (f : SlotFault). ReadsObject old new o c.args.at c.args.into.now c.read.new.into (Err f)) (sym c.slot_fault.ensures)
    (read_refused old new o c.args.at c.args.into.now c.read.new.into c.in-Err.fault e.fault e.blocks e.corrupt r.rest r.verified (g.met.F.StoreFile.sound c.read.new.self.tree.file) r.rests e.cause)

pub returns-in-Ok-clause-reads : goal.returns-in-Ok-clause-reads
returns-in-Ok-clause-reads g c =
    let e = c.in-Ok.ensures in
    let r = c.read.ensures in
    record {
      count = e.count;
      bytes = e.bytes;
      refused = tt;
      content = e.content;
      corrupt = e.corrupt;
      behind = r.rest;
      verified = r.verified;
      rests = r.rests;
      cause = e.cause;
      steps = read_steps (g.F.StoreFile.state c.args.object.now.tree.file) (g.F.StoreFile.state c.read.new.self.tree.file) (g.met.F.StoreFile.sound c.read.new.self.tree.file) r.rests;
      asks = e.asks;
    }
