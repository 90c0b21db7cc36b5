use Rattle.std.proofs.Common.{◌≡◌, ◌∙◌, ◌+◌, ◌-◌, ℕ, length, min, ap, arith}
use Rattle.page_bytes.specs.Ranges.{meets}
use Rattle.object_file.proofs.FirstBlock.{first_stands}
use Rattle.object_file.proofs.loading.read_first.Goals as goal

pub returns-clause-stands : goal.returns-clause-stands
returns-clause-stands g c told =
    let a = g.F.StoreFile.state c.args.file.now.file in
    let b = g.F.StoreFile.state c.read.new.self.file in
    let tree = c.args.file.now in
    let n : ℕ = c.in_ok-read.field-0 in
    let whole : n ≡ 4096 = c.in_ok-read.ensures.count ∙ omega (arith, c.told-page, c.requires) in
    let last : 0 + min (length c.args.page.now) (tree.tree.head.length - 0) ≡ 4096 = omega (arith, c.told-page, c.requires) in
    first_stands tree.key tree.tree a b n c.read.new.into c.args.page.now whole (omega (arith, c.read.auto.into, c.told-page, whole)) told
    (c.in_ok-read.ensures.blocks 0 (ap (λ (l : ℕ). meets 0 l 0) last)) (c.in_ok-read.ensures.content told)
