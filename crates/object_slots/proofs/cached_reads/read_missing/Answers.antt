use Rattle.object_slots.proofs.KeptPages.{kept_still}
use Rattle.object_slots.proofs.cached_reads.read_missing.Goals as goal

pub returns-in-Err-clause-kept : goal.returns-in-Err-clause-kept
returns-in-Err-clause-kept g c =
    let r = c.read_through.ensures in
    kept_still g.F.StoreFile.state c.args.object.now c.read_through.new.object r.same (g.met.F.StoreFile.sound c.args.object.now.tree.file) r.rests c.args.pages.now c.args.pages.now c.requires.kept (λ kept has. has)
