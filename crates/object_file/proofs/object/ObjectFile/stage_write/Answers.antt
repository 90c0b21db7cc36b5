use Rattle.std.proofs.Common.{◌≡◌, ◌∙◌, ◌+◌, ◌-◌, ℕ, List, [], min, max, length, IfSome, OnOk, refl, subst, arith}
use Rattle.page_bytes.specs.declared.range.ByteRange.{ByteRange}
use Rattle.page_bytes.specs.Ranges.{needs, write_range}
use Rattle.block_file.specs.Reads.{BlocksAnswer}
use Rattle.block_file.specs.Stages.{LeavesBytes, SealsRange, StageAnswer, WritesRange}
use Rattle.disk_model.specs.Bytes.{after_write}
use Rattle.block_file.proofs.StageBytes.{stage_ok}
use Rattle.crash_core.proofs.ObjectChanges.{write_range-shifted}
use Rattle.store_model.specs.Data.{written_contents}
use Rattle.object_file.specs.Changes.{LeavesObject}
use Rattle.object_file.proofs.HeldObjects.{holds_ok}
use Rattle.object_file.proofs.ObjectStages.{corrupt_change, early_rests, leaves_written}
use Rattle.object_file.proofs.object.ObjectFile.stage_write.Goals as goal

pub returns-clause-staged : goal.returns-clause-staged
returns-clause-staged g c =
    let t = c.self.inside.file in
    let n : ℕ = length c.args.bytes.now in
    let size : max t.tree.head.length (4096 + c.from.result + n) ≡ 4096 + max (t.tree.head.length - 4096) (c.args.at + n) = omega (arith, c.self.invariant.0, c.from.ensures) in
    rw (← c.self.view_is) (subst (λ (m : ℕ). StageAnswer g.F.StoreFile.state t c.stage_write.new.self m {A = Unit {0}} c.stage_write.result) size c.stage_write.ensures.staged)

pub returns-clause-written : goal.returns-clause-written
returns-clause-written g c =
    let t = c.self.inside.file in
    let before = (g.F.StoreFile.state t.file).reads in
    let after = (g.F.StoreFile.state c.stage_write.new.self.file).reads in
    let bytes : List ℕ = c.args.bytes.now in
    let size : ℕ = t.tree.head.length - 4096 in
    let attributes : ℕ = length c.self.inside.attributes.items in
    let whole : t.tree.head.length ≡ 4096 + size = omega (arith, c.self.invariant.0) in
    rw (← c.self.view_is) (stage_ok _ c.stage_write.result c.stage_write.new.self.stage _ _ _
    (λ s. LeavesObject t.key t.tree.head.wrapped before t.root after s.root attributes size (max size (c.args.at + length bytes)) (λ c'. written_contents c' c.args.at bytes))
    c.stage_write.ensures.written
    (λ loads s leaves. subst (λ (at : ℕ). LeavesObject t.key t.tree.head.wrapped before t.root after s.root attributes size (max size (at + length bytes)) (λ c'. written_contents c' at bytes)) c.from.ensures
    (leaves_written t.key t.tree.head.wrapped before after t.root s.root t.tree attributes size c.stage_write.ensures.verified loads whole c.from.result bytes leaves)))

pub returns-clause-blocks : goal.returns-clause-blocks
returns-clause-blocks g c =
    let t = c.self.inside.file in
    let n : ℕ = length c.args.bytes.now in
    let whole : t.tree.head.length ≡ 4096 + (t.tree.head.length - 4096) = omega (arith, c.self.invariant.0) in
    rw (← c.self.view_is) (subst (λ (r : ByteRange). BlocksAnswer t.key t.tree (g.F.StoreFile.state t.file) (g.F.StoreFile.state c.stage_write.new.self.file) (needs r) c.stage_write.result)
    (λ i. write_range (whole i) (4096 + c.from.ensures i) n) c.stage_write.ensures.blocks)

pub returns-clause-corrupt : goal.returns-clause-corrupt
returns-clause-corrupt g c =
    let t = c.self.inside.file in
    let n : ℕ = length c.args.bytes.now in
    let size : ℕ = t.tree.head.length - 4096 in
    let whole : t.tree.head.length ≡ 4096 + size = omega (arith, c.self.invariant.0) in
    let a = g.F.StoreFile.state t.file in
    let new = g.F.StoreFile.state c.stage_write.new.self.file in
    let range : write_range t.tree.head.length (4096 + c.from.result) n ≡ write_range (4096 + size) (4096 + c.args.at) n = λ i. write_range (whole i) (4096 + c.from.ensures i) n in
    let blocks = subst (λ (r : ByteRange). BlocksAnswer t.key t.tree a new (needs r) c.stage_write.result) (range ∙ write_range-shifted size c.args.at n) c.stage_write.ensures.blocks in
    rw (← c.self.view_is) (λ told. corrupt_change t.key t.root t.tree a new size (min c.args.at size) (c.args.at + n) c.stage_write.ensures.verified whole told [] [] (Unit {0}) c.stage_write.result
    blocks (early_rests a new (Unit {0}) _ c.stage_write.result c.stage_write.ensures.early))

pub returns-clause-laid : goal.returns-clause-laid
returns-clause-laid g c =
    let t = c.self.inside.file in
    let before = (g.F.StoreFile.state t.file).reads in
    let after = (g.F.StoreFile.state c.stage_write.new.self.file).reads in
    let bytes : List ℕ = c.args.bytes.now in
    rw (← c.self.view_is) (stage_ok _ c.stage_write.result c.stage_write.new.self.stage _ _ _
    (λ s. LeavesBytes t.key t.tree.head.wrapped before t.root after s.root (write_range t.tree.head.length (4096 + c.args.at) (length bytes)) (λ old. after_write old (4096 + c.args.at) bytes))
    c.stage_write.ensures.written
    (λ loads s leaves. subst (λ (at : ℕ). LeavesBytes t.key t.tree.head.wrapped before t.root after s.root (write_range t.tree.head.length (4096 + at) (length bytes)) (λ old. after_write old (4096 + at) bytes)) c.from.ensures leaves))

pub returns-clause-holds : goal.returns-clause-holds
returns-clause-holds g c =
    let t = c.self.inside.file in
    let new = c.stage_write.new.self in
    let before = (g.F.StoreFile.state t.file).reads in
    let after = (g.F.StoreFile.state new.file).reads in
    let bytes : List ℕ = c.args.bytes.now in
    let n : ℕ = length bytes in
    let old : ℕ = t.tree.head.length - 4096 in
    let attributes : List ℕ = c.self.inside.attributes.items in
    let whole : t.tree.head.length ≡ 4096 + old = omega (arith, c.self.invariant.0) in
    let size : max t.tree.head.length (4096 + c.from.result + n) ≡ 4096 + max old (c.args.at + n) = omega (arith, c.self.invariant.0, c.from.ensures) in
    let staged = subst (λ (m : ℕ). StageAnswer g.F.StoreFile.state t new m {A = Unit {0}} c.stage_write.result) size c.stage_write.ensures.staged in
    let leaves = stage_ok _ c.stage_write.result new.stage _ _ _
    (λ s. LeavesObject t.key t.tree.head.wrapped before t.root after s.root (length attributes) old (max old (c.args.at + n)) (λ c'. written_contents c' c.args.at bytes))
    c.stage_write.ensures.written
    (λ loads s leaves. subst (λ (at : ℕ). LeavesObject t.key t.tree.head.wrapped before t.root after s.root (length attributes) old (max old (at + n)) (λ c'. written_contents c' at bytes)) c.from.ensures
    (leaves_written t.key t.tree.head.wrapped before after t.root s.root t.tree (length attributes) old c.stage_write.ensures.verified loads whole c.from.result bytes leaves)) in
    rw (← c.self.view_is) (holds_ok g.row.F.Denot g.F.StoreFile.state (record { tree = t; attributes = attributes }) (record { tree = new; attributes = attributes }) (max old (c.args.at + n))
    (λ c'. written_contents c' c.args.at bytes) (λ c'. refl) refl staged.same (Unit {0}) c.stage_write.result staged leaves)

pub returns-clause-budget : goal.returns-clause-budget
returns-clause-budget g c =
    let t = c.self.inside.file in
    let n : ℕ = length c.args.bytes.now in
    rw (← c.self.view_is) (subst (λ (at : ℕ). WritesRange (write_range t.tree.head.length (4096 + at) n) (max t.tree.head.length (4096 + at + n)) t.tree.head.greatest
    (g.F.StoreFile.state t.file) (g.F.StoreFile.state c.stage_write.new.self.file)) c.from.ensures c.stage_write.ensures.budget)

pub returns-clause-seals : goal.returns-clause-seals
returns-clause-seals g c =
    let t = c.self.inside.file in
    let bytes : List ℕ = c.args.bytes.now in
    rw (← c.self.view_is) (subst (λ (at : ℕ). OnOk c.stage_write.result (IfSome c.stage_write.new.self.stage (λ s. SealsRange t.key t.tree s.tree (g.F.StoreFile.state t.file)
    (g.F.StoreFile.state c.stage_write.new.self.file) (write_range t.tree.head.length (4096 + at) (length bytes)) (4096 + at) bytes (max t.tree.head.length (4096 + at + length bytes)))))
    c.from.ensures c.stage_write.ensures.seals)
