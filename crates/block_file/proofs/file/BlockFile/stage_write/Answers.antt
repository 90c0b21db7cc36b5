use Rattle.std.proofs.Common.{◌≡◌, ◌∙◌, ◌+◌, ℕ, List, max, length, ap, subst}
use Rattle.page_bytes.specs.declared.range.ByteRange.{ByteRange}
use Rattle.page_bytes.specs.Ranges.{write_range}
use Rattle.disk_model.specs.Bytes.{after_write}
use Rattle.block_file.specs.Stages.{LeavesBytes, LeavesRewritten}
use Rattle.block_file.proofs.StageBytes.{leaves_written, stage_ok}
use Rattle.block_file.proofs.file.BlockFile.stage_write.Goals as goal

pub returns-clause-written : goal.returns-clause-written
returns-clause-written g c =
    let t = c.args.self.now in
    let before = (g.F.StoreFile.state t.file).reads in
    let after = (g.F.StoreFile.state c.stage_range.new.self.file).reads in
    let at : ℕ = c.args.at in
    let bytes : List ℕ = c.args.bytes.now in
    let range : c.of_write-range.result ≡ write_range t.tree.head.length at (length bytes) =
    c.of_write-range.ensures ∙ ap (λ (n : ℕ). write_range n at (length bytes)) c.length-old.ensures.length in
    let last : c.of_write-range.result.last ≡ at + length bytes = ap (λ (r : ByteRange). r.last) range in
    let size : c.max.result ≡ max t.tree.head.length (at + length bytes) = c.max.ensures ∙ (λ i. max (c.length-old.ensures.length i) (last i)) in
    stage_ok _ c.stage_range.result c.stage_range.new.self.stage _ _ _ (λ s. LeavesBytes t.key t.tree.head.wrapped before t.root after s.root (write_range t.tree.head.length at (length bytes)) (λ old. after_write old at bytes))
    c.stage_range.ensures.rewritten
    (λ loads s leaves. leaves_written t.key t.tree.head.wrapped before after t.root s.root t.tree at bytes loads
    (subst (λ (r : ByteRange). LeavesRewritten t.key t.tree.head.wrapped before t.root after s.root r at bytes (max t.tree.head.length (at + length bytes))) range
    (subst (λ (n : ℕ). LeavesRewritten t.key t.tree.head.wrapped before t.root after s.root c.of_write-range.result at bytes n) size leaves)))
