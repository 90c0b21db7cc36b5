use Rattle.std.proofs.Common.{◌≡◌, ◌+◌, ℕ, sym, subst, arith}
use Rattle.page_bytes.specs.Ranges.{needs, resize_range}
use Rattle.block_file.specs.Reads.{BlocksAnswer}
use Rattle.object_file.specs.Value.{size_in}
use Rattle.object_slots.specs.SlotStages.{resize_change}
use Rattle.object_slots.specs.SlotValues.{apart}
use Rattle.object_slots.proofs.StageAnswers.{opens_stage}
use Rattle.object_slots.proofs.staging.open_truncate.Goals as goal

pub returns-clause-opens : goal.returns-clause-opens
returns-clause-opens g c =
    let state = g.F.StoreFile.state in
    let o = c.args.object.now in
    let p = c.stage_truncate.new.self in
    let e = c.stage_truncate.ensures in
    let old = state o.tree.file in
    let new = state p.tree.file in
    let whole : o.tree.tree.head.length ≡ 4096 + size_in o = omega (arith, c.size.ensures.whole) in
    opens_stage {F = g.row.F.Denot} state o p (resize_change (apart o) c.args.size) _ (Unit {0}) c.stage_truncate.result e.staged e.attributes e.seals
    e.resized e.holds e.cut
    (subst (λ (m : ℕ). BlocksAnswer o.tree.key o.tree.tree old new (needs (resize_range m (4096 + c.args.size))) c.stage_truncate.result) (sym whole) e.blocks)
    e.corrupt e.early e.undrawn c.size.ensures.verified
