use Rattle.std.proofs.Common.{◌≡◌, ◌∙◌, ◌+◌, ◌-◌, ℕ, List, [], min, max, length, IfSome, OnOk, refl, subst, arith}
use Rattle.page_bytes.specs.declared.range.ByteRange.{ByteRange}
use Rattle.page_bytes.specs.Ranges.{needs, resize_range}
use Rattle.block_file.specs.Reads.{BlocksAnswer}
use Rattle.block_file.specs.Stages.{LeavesBytes, SealsRange, StageAnswer, WritesRange}
use Rattle.disk_model.specs.Bytes.{after_resize}
use Rattle.block_file.proofs.StageBytes.{stage_ok}
use Rattle.crash_core.proofs.ObjectChanges.{resize_range-shifted}
use Rattle.store_model.specs.Data.{resized_contents}
use Rattle.object_file.specs.Changes.{LeavesObject}
use Rattle.object_file.proofs.HeldObjects.{holds_ok}
use Rattle.object_file.proofs.HeldObjects.{holds_ok}
use Rattle.object_file.proofs.ObjectStages.{corrupt_change, early_rests, leaves_resized}
use Rattle.object_file.proofs.object.ObjectFile.stage_truncate.Goals as goal

pub returns-clause-staged : goal.returns-clause-staged
returns-clause-staged g c =
    let t = c.self.inside.file in
    rw (← c.self.view_is) (subst (λ (m : ℕ). StageAnswer g.F.StoreFile.state t c.stage_truncate.new.self (4096 + m) {A = Unit {0}} c.stage_truncate.result) c.from.ensures c.stage_truncate.ensures.staged)

pub returns-clause-resized : goal.returns-clause-resized
returns-clause-resized g c =
    let t = c.self.inside.file in
    let before = (g.F.StoreFile.state t.file).reads in
    let after = (g.F.StoreFile.state c.stage_truncate.new.self.file).reads in
    let size : ℕ = t.tree.head.length - 4096 in
    let attributes : ℕ = length c.self.inside.attributes.items in
    let whole : t.tree.head.length ≡ 4096 + size = omega (arith, c.self.invariant.0) in
    rw (← c.self.view_is) (stage_ok _ c.stage_truncate.result c.stage_truncate.new.self.stage _ _ _
    (λ s. LeavesObject t.key t.tree.head.wrapped before t.root after s.root attributes size c.args.size (λ c'. resized_contents c' c.args.size))
    c.stage_truncate.ensures.resized
    (λ loads s leaves. subst (λ (n : ℕ). LeavesObject t.key t.tree.head.wrapped before t.root after s.root attributes size n (λ c'. resized_contents c' n)) c.from.ensures
    (leaves_resized t.key t.tree.head.wrapped before after t.root s.root t.tree attributes size c.stage_truncate.ensures.verified loads whole c.from.result leaves)))

pub returns-clause-blocks : goal.returns-clause-blocks
returns-clause-blocks g c =
    let t = c.self.inside.file in
    let whole : t.tree.head.length ≡ 4096 + (t.tree.head.length - 4096) = omega (arith, c.self.invariant.0) in
    rw (← c.self.view_is) (subst (λ (r : ByteRange). BlocksAnswer t.key t.tree (g.F.StoreFile.state t.file) (g.F.StoreFile.state c.stage_truncate.new.self.file) (needs r) c.stage_truncate.result)
    (λ i. resize_range (whole i) (4096 + c.from.ensures i)) c.stage_truncate.ensures.blocks)

pub returns-clause-corrupt : goal.returns-clause-corrupt
returns-clause-corrupt g c =
    let t = c.self.inside.file in
    let size : ℕ = t.tree.head.length - 4096 in
    let whole : t.tree.head.length ≡ 4096 + size = omega (arith, c.self.invariant.0) in
    let a = g.F.StoreFile.state t.file in
    let new = g.F.StoreFile.state c.stage_truncate.new.self.file in
    let range : resize_range t.tree.head.length (4096 + c.from.result) ≡ resize_range (4096 + size) (4096 + c.args.size) = λ i. resize_range (whole i) (4096 + c.from.ensures i) in
    let blocks = subst (λ (r : ByteRange). BlocksAnswer t.key t.tree a new (needs r) c.stage_truncate.result) (range ∙ resize_range-shifted size c.args.size) c.stage_truncate.ensures.blocks in
    rw (← c.self.view_is) (λ told. corrupt_change t.key t.root t.tree a new size (min c.args.size size) (max c.args.size size) c.stage_truncate.ensures.verified whole told [] [] (Unit {0}) c.stage_truncate.result
    blocks (early_rests a new (Unit {0}) _ c.stage_truncate.result c.stage_truncate.ensures.early))

pub returns-clause-cut : goal.returns-clause-cut
returns-clause-cut g c =
    let t = c.self.inside.file in
    let before = (g.F.StoreFile.state t.file).reads in
    let after = (g.F.StoreFile.state c.stage_truncate.new.self.file).reads in
    rw (← c.self.view_is) (stage_ok _ c.stage_truncate.result c.stage_truncate.new.self.stage _ _ _
    (λ s. LeavesBytes t.key t.tree.head.wrapped before t.root after s.root (resize_range t.tree.head.length (4096 + c.args.size)) (λ old. after_resize old (4096 + c.args.size)))
    c.stage_truncate.ensures.resized
    (λ loads s leaves. subst (λ (n : ℕ). LeavesBytes t.key t.tree.head.wrapped before t.root after s.root (resize_range t.tree.head.length (4096 + n)) (λ old. after_resize old (4096 + n))) c.from.ensures leaves))

pub returns-clause-holds : goal.returns-clause-holds
returns-clause-holds g c =
    let t = c.self.inside.file in
    let new = c.stage_truncate.new.self in
    let before = (g.F.StoreFile.state t.file).reads in
    let after = (g.F.StoreFile.state new.file).reads in
    let old : ℕ = t.tree.head.length - 4096 in
    let attributes : List ℕ = c.self.inside.attributes.items in
    let whole : t.tree.head.length ≡ 4096 + old = omega (arith, c.self.invariant.0) in
    let staged = subst (λ (m : ℕ). StageAnswer g.F.StoreFile.state t new (4096 + m) {A = Unit {0}} c.stage_truncate.result) c.from.ensures c.stage_truncate.ensures.staged in
    let leaves = stage_ok _ c.stage_truncate.result new.stage _ _ _
    (λ s. LeavesObject t.key t.tree.head.wrapped before t.root after s.root (length attributes) old c.args.size (λ c'. resized_contents c' c.args.size))
    c.stage_truncate.ensures.resized
    (λ loads s leaves. subst (λ (n : ℕ). LeavesObject t.key t.tree.head.wrapped before t.root after s.root (length attributes) old n (λ c'. resized_contents c' n)) c.from.ensures
    (leaves_resized t.key t.tree.head.wrapped before after t.root s.root t.tree (length attributes) old c.stage_truncate.ensures.verified loads whole c.from.result leaves)) in
    rw (← c.self.view_is) (holds_ok g.row.F.Denot g.F.StoreFile.state (record { tree = t; attributes = attributes }) (record { tree = new; attributes = attributes }) c.args.size
    (λ c'. resized_contents c' c.args.size) (λ c'. refl) refl staged.same (Unit {0}) c.stage_truncate.result staged leaves)

pub returns-clause-budget : goal.returns-clause-budget
returns-clause-budget g c =
    let t = c.self.inside.file in
    rw (← c.self.view_is) (subst (λ (n : ℕ). WritesRange (resize_range t.tree.head.length (4096 + n)) (4096 + n) t.tree.head.greatest
    (g.F.StoreFile.state t.file) (g.F.StoreFile.state c.stage_truncate.new.self.file)) c.from.ensures c.stage_truncate.ensures.budget)

pub returns-clause-seals : goal.returns-clause-seals
returns-clause-seals g c =
    let t = c.self.inside.file in
    rw (← c.self.view_is) (subst (λ (n : ℕ). OnOk c.stage_truncate.result (IfSome c.stage_truncate.new.self.stage (λ s. SealsRange t.key t.tree s.tree (g.F.StoreFile.state t.file)
    (g.F.StoreFile.state c.stage_truncate.new.self.file) (resize_range t.tree.head.length (4096 + n)) (4096 + n) [] (4096 + n))))
    c.from.ensures c.stage_truncate.ensures.seals)
