use Rattle.std.proofs.Common.{◌≡◌, ℕ, List, length, take, replicate, length-take, sym, ◌∙◌, subst, arith}
use Rattle.std.proofs.lemmas.List.{length-replicate}
use Rattle.disk_model.specs.Calls.{Known}
use Rattle.htree_file.specs.Copies.{AreFlags, IsCopyOf}
use Rattle.htree_file.specs.Standing.{Told}
use Rattle.htree_file.proofs.CopyRuns.{parts_copied, run_then}
use Rattle.htree_file.proofs.copying.copy_parts.Goals as goal

pub returns-in_err-copy_nodes-clause-run : goal.returns-in_err-copy_nodes-clause-run
returns-in_err-copy_nodes-clause-run g c = run_then _ _ _ _ _ _ c.copy_head.ensures.run c.copy_nodes.ensures.run

pub returns-in_err-copy_blocks-clause-run : goal.returns-in_err-copy_blocks-clause-run
returns-in_err-copy_blocks-clause-run g c = run_then _ _ _ _ _ _ (run_then _ _ _ _ _ _ c.copy_head.ensures.run c.copy_nodes.ensures.run) c.copy_blocks.ensures.run

pub returns-clause-run : goal.returns-clause-run
returns-clause-run g c = run_then _ _ _ _ _ _ (run_then _ _ _ _ _ _ c.copy_head.ensures.run c.copy_nodes.ensures.run) c.copy_blocks.ensures.run

pub returns-clause-copied : goal.returns-clause-copied
returns-clause-copied g c =
    let a = g.F.StoreFile.state c.args.from.now in
    let b = g.F.StoreFile.state c.copy_head.new.from in
    let d = g.F.StoreFile.state c.copy_nodes.new.from in
    let e = g.F.StoreFile.state c.copy_blocks.new.from in
    let w = g.F.StoreFile.state c.args.to.now in
    let x = g.F.StoreFile.state c.copy_head.new.to in
    let y = g.F.StoreFile.state c.copy_nodes.new.to in
    let z = g.F.StoreFile.state c.copy_blocks.new.to in
    let root = c.args.root in
    let format : ℕ = c.args.format in
    let count : ℕ = c.in_ok-count.count in
    let flags : List ℕ = c.copy_nodes.new.flags in
    let room : List ℕ = replicate 256 0 in
    let wide : length (take count room) ≡ length flags = omega arith in
    let long : length flags ≡ count = omega (arith, wide, length-take count room, length-replicate {A = ℕ} 256 0, c.in_ok-count.ensures.few) in
    let nodes : Told b d → Known x y → IsCopyOf b.reads x.reads root format 0 0 → IsCopyOf b.reads y.reads root format count 0 = λ told known whole.
    subst (λ (n : ℕ). IsCopyOf b.reads y.reads root format n 0) (wide ∙ long) (c.in_ok-copy_nodes.ensures.copied told known whole) in
    let named : Told b d → AreFlags b.reads root flags count = λ told. subst (λ (n : ℕ). AreFlags b.reads root flags n) (wide ∙ long) (c.in_ok-copy_nodes.ensures.flags told) in
    let blocks : Told d e → Known y z → AreFlags d.reads root flags count → IsCopyOf d.reads y.reads root format count 0 → IsCopyOf d.reads z.reads root format count count = λ told known are whole.
    subst (λ (n : ℕ). IsCopyOf d.reads z.reads root format n n) long
    (c.in_ok-copy_blocks.ensures.copied told known (subst (λ (n : ℕ). AreFlags d.reads root flags n) (sym long) are) (subst (λ (n : ℕ). IsCopyOf d.reads y.reads root format n 0) (sym long) whole)) in
    parts_copied a b d e w x y z root format flags count c.copy_head.ensures.run c.copy_nodes.ensures.run c.copy_blocks.ensures.run
    c.in_ok-count.ensures.copied c.in_ok-count.ensures.count nodes named blocks
