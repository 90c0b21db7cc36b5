use Rattle.std.proofs.Common.{length}
use Rattle.disk_model.specs.Keeps.{Outside}
use Rattle.disk_model.proofs.Laws.{change_keeps, keeps_fewer}
use Rattle.disk_model.proofs.Seen.{written_masked}
use Rattle.htree_file.specs.Making.{Nowhere}
use Rattle.object_slots.proofs.creating.cut_file.Goals as goal

pub returns-in-Ok-clause-keeps : goal.returns-in-Ok-clause-keeps
returns-in-Ok-clause-keeps g c =
    let old = g.F.StoreFile.state c.args.file.now in
    let new = g.F.StoreFile.state c.set_len.new.self in
    keeps_fewer (Outside 0 (length old.reads)) Nowhere old new (λ p at. absurd at)
    (change_keeps 0 (length old.reads) old new (g.met.F.StoreFile.sound c.args.file.now)
    (record { changes = c.set_len.ensures.changes; others = c.set_len.ensures.others; masked = λ tells. written_masked 0 (length old.reads) old new (c.set_len.ensures.others_struck tells) }))

pub returns-in-Err-clause-keeps : goal.returns-in-Err-clause-keeps
returns-in-Err-clause-keeps g c =
    let old = g.F.StoreFile.state c.args.file.now in
    let new = g.F.StoreFile.state c.set_len.new.self in
    keeps_fewer (Outside 0 (length old.reads)) Nowhere old new (λ p at. absurd at)
    (change_keeps 0 (length old.reads) old new (g.met.F.StoreFile.sound c.args.file.now)
    (record { changes = c.set_len.ensures.changes; others = c.set_len.ensures.others; masked = λ tells. written_masked 0 (length old.reads) old new (c.set_len.ensures.others_struck tells) }))
