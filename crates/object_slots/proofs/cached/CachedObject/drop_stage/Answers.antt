use Rattle.std.proofs.Common.{sym, subst}
use Rattle.block_file.specs.Reads.{IsPage}
use Rattle.object_file.specs.Value.{ObjectValue}
use Rattle.object_slots.proofs.cached.CachedObject.drop_stage.Goals as goal

pub invariant_of-self : goal.invariant_of-self
invariant_of-self g c = λ k page has.
    let state = g.F.StoreFile.state in
    subst (λ (o : ObjectValue g.row.F.Denot). IsPage o.tree.key o.tree.tree (state o.tree.file) (state o.tree.file) k page) (sym c.drop_stage.ensures.same) (c.self.invariant k page has)
