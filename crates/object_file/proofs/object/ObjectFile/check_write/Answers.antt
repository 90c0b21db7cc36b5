use Rattle.std.proofs.Common.{◌≡◌, ◌∙◌, ◌+◌, ◌-◌, ℕ, [], min, subst, arith}
use Rattle.page_bytes.specs.declared.range.ByteRange.{ByteRange}
use Rattle.page_bytes.specs.Ranges.{needs, write_range}
use Rattle.block_file.specs.Reads.{BlocksAnswer}
use Rattle.crash_core.proofs.ObjectChanges.{write_range-shifted}
use Rattle.object_file.proofs.ObjectStages.{corrupt_change, rests_bad}
use Rattle.object_file.proofs.object.ObjectFile.check_write.Goals as goal

pub returns-clause-blocks : goal.returns-clause-blocks
returns-clause-blocks g c =
    let t = c.self.inside.file in
    rw (← c.self.view_is) (subst (λ (r : ByteRange). BlocksAnswer t.key t.tree (g.F.StoreFile.state t.file) (g.F.StoreFile.state c.check_write.new.self.file) (needs r) c.check_write.result)
    (λ i. write_range t.tree.head.length (4096 + c.from-place.ensures i) (c.from-many.ensures i)) c.check_write.ensures.blocks)

pub returns-clause-corrupt : goal.returns-clause-corrupt
returns-clause-corrupt g c =
    let t = c.self.inside.file in
    let n : ℕ = c.args.count in
    let size : ℕ = t.tree.head.length - 4096 in
    let whole : t.tree.head.length ≡ 4096 + size = omega (arith, c.self.invariant.0) in
    let a = g.F.StoreFile.state t.file in
    let new = g.F.StoreFile.state c.check_write.new.self.file in
    let range : write_range t.tree.head.length (4096 + c.from-place.result) c.from-many.result ≡ write_range (4096 + size) (4096 + c.args.at) n =
    λ i. write_range (whole i) (4096 + c.from-place.ensures i) (c.from-many.ensures i) in
    let blocks = subst (λ (r : ByteRange). BlocksAnswer t.key t.tree a new (needs r) c.check_write.result) (range ∙ write_range-shifted size c.args.at n) c.check_write.ensures.blocks in
    rw (← c.self.view_is) (λ told. corrupt_change t.key t.root t.tree a new size (min c.args.at size) (c.args.at + n) c.check_write.ensures.verified whole told [] [] (Unit {0}) c.check_write.result
    blocks (rests_bad a new (Unit {0}) c.check_write.result c.check_write.ensures.rests))
