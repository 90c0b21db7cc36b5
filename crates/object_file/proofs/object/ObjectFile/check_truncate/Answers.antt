use Rattle.std.proofs.Common.{◌≡◌, ◌∙◌, ◌+◌, ◌-◌, ℕ, [], max, min, subst, arith}
use Rattle.page_bytes.specs.declared.range.ByteRange.{ByteRange}
use Rattle.page_bytes.specs.Ranges.{needs, resize_range}
use Rattle.block_file.specs.Reads.{BlocksAnswer}
use Rattle.crash_core.proofs.ObjectChanges.{resize_range-shifted}
use Rattle.object_file.proofs.ObjectStages.{corrupt_change, rests_bad}
use Rattle.object_file.proofs.object.ObjectFile.check_truncate.Goals as goal

pub returns-clause-blocks : goal.returns-clause-blocks
returns-clause-blocks g c =
    let t = c.self.inside.file in
    rw (← c.self.view_is) (subst (λ (r : ByteRange). BlocksAnswer t.key t.tree (g.F.StoreFile.state t.file) (g.F.StoreFile.state c.check_truncate.new.self.file) (needs r) c.check_truncate.result)
    (λ i. resize_range t.tree.head.length (4096 + c.from-all.ensures i)) c.check_truncate.ensures.blocks)

pub returns-clause-corrupt : goal.returns-clause-corrupt
returns-clause-corrupt g c =
    let t = c.self.inside.file in
    let size : ℕ = t.tree.head.length - 4096 in
    let whole : t.tree.head.length ≡ 4096 + size = omega (arith, c.self.invariant.0) in
    let a = g.F.StoreFile.state t.file in
    let new = g.F.StoreFile.state c.check_truncate.new.self.file in
    let range : resize_range t.tree.head.length (4096 + c.from-all.result) ≡ resize_range (4096 + size) (4096 + c.args.size) = λ i. resize_range (whole i) (4096 + c.from-all.ensures i) in
    let blocks = subst (λ (r : ByteRange). BlocksAnswer t.key t.tree a new (needs r) c.check_truncate.result) (range ∙ resize_range-shifted size c.args.size) c.check_truncate.ensures.blocks in
    rw (← c.self.view_is) (λ told. corrupt_change t.key t.root t.tree a new size (min c.args.size size) (max c.args.size size) c.check_truncate.ensures.verified whole told [] [] (Unit {0}) c.check_truncate.result
    blocks (rests_bad a new (Unit {0}) c.check_truncate.result c.check_truncate.ensures.rests))
