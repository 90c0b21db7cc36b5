use Rattle.std.proofs.Common.{◌≡◌, ◌∙◌, ℕ, [], ap, subst}
use Rattle.page_bytes.specs.declared.range.ByteRange.{ByteRange}
use Rattle.page_bytes.specs.Ranges.{resize_range}
use Rattle.disk_model.specs.Bytes.{after_resize}
use Rattle.block_file.specs.Stages.{LeavesBytes, LeavesRewritten}
use Rattle.block_file.proofs.StageBytes.{leaves_resized, stage_ok}
use Rattle.block_file.proofs.file.BlockFile.stage_truncate.Goals as goal

pub returns-clause-resized : goal.returns-clause-resized
returns-clause-resized g c =
    let t = c.args.self.now in
    let before = (g.F.StoreFile.state t.file).reads in
    let after = (g.F.StoreFile.state c.stage_range.new.self.file).reads in
    let size : ℕ = c.args.size in
    let range : c.of_resize-range.result ≡ resize_range t.tree.head.length size = c.of_resize-range.ensures ∙ ap (λ (n : ℕ). resize_range n size) c.length.ensures.length in
    stage_ok _ c.stage_range.result c.stage_range.new.self.stage _ _ _ (λ s. LeavesBytes t.key t.tree.head.wrapped before t.root after s.root (resize_range t.tree.head.length size) (λ old. after_resize old size))
    c.stage_range.ensures.rewritten
    (λ loads s leaves. leaves_resized t.key t.tree.head.wrapped before after t.root s.root t.tree size loads
    (subst (λ (r : ByteRange). LeavesRewritten t.key t.tree.head.wrapped before t.root after s.root r size [] size) range leaves))
