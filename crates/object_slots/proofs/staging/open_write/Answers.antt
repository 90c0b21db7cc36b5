use Rattle.std.proofs.Common.{◌≡◌, ◌+◌, ℕ, List, length, max, IfSome, OnOk, sym, subst, arith}
use Rattle.page_bytes.specs.Ranges.{needs, write_range}
use Rattle.block_file.specs.Reads.{BlocksAnswer}
use Rattle.block_file.specs.Stages.{SealsRange}
use Rattle.object_file.specs.Value.{size_in}
use Rattle.object_slots.specs.SlotStages.{write_change}
use Rattle.object_slots.specs.SlotValues.{apart}
use Rattle.object_slots.proofs.StageAnswers.{opens_stage}
use Rattle.object_slots.proofs.staging.open_write.Goals as goal

pub returns-clause-opens : goal.returns-clause-opens
returns-clause-opens g c =
    let state = g.F.StoreFile.state in
    let o = c.args.object.now in
    let p = c.stage_write.new.self in
    let e = c.stage_write.ensures in
    let bytes : List ℕ = c.args.bytes.now in
    let n : ℕ = length bytes in
    let old = state o.tree.file in
    let new = state p.tree.file in
    let whole : o.tree.tree.head.length ≡ 4096 + size_in o = omega (arith, c.size.ensures.whole) in
    let size : max o.tree.tree.head.length (4096 + c.args.at + n) ≡ 4096 + max (size_in o) (c.args.at + n) = omega (arith, whole) in
    opens_stage {F = g.row.F.Denot} state o p (write_change (apart o) c.args.at bytes) _ (Unit {0}) c.stage_write.result e.staged e.attributes
    (subst (λ (m : ℕ). OnOk c.stage_write.result (IfSome p.tree.stage (λ s. SealsRange o.tree.key o.tree.tree s.tree old new (write_range o.tree.tree.head.length (4096 + c.args.at) n) (4096 + c.args.at) bytes m)))
    size e.seals)
    e.written e.holds e.laid
    (subst (λ (m : ℕ). BlocksAnswer o.tree.key o.tree.tree old new (needs (write_range m (4096 + c.args.at) n)) c.stage_write.result) (sym whole) e.blocks)
    e.corrupt e.early e.undrawn c.size.ensures.verified
