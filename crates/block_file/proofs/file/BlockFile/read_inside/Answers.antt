use Rattle.std.proofs.Common.{◌≡◌, ◌∙◌, ℕ, ◌+◌, ◌-◌, ◌*◌, ◌≤◌, List, length, refl, sym, ap, subst, arith}
use Rattle.page_bytes.proofs.Laying.{length-part}
use Rattle.block_file.specs.Parts.{PartAnswer}
use Rattle.block_file.proofs.Reading.{part_inside}
use Rattle.block_file.proofs.file.BlockFile.read_inside.Goals as goal
use borrow.Rule.Slice.PartMut.{put_mid}

pub returns-clause-answer : goal.returns-clause-answer
returns-clause-answer g c =
    let t = c.args.self.now in
    let r = c.args.range in
    let into : List ℕ = c.args.into.now in
    let page : List ℕ = c.read_whole.new.into in
    let a = g.F.StoreFile.state t.file in
    let b = g.F.StoreFile.state c.read_whole.new.self.file in
    let begin : ℕ = 4096 * c.from.result - r.first in
    let count : ℕ = begin + 4096 - begin in
    let place : begin ≡ 4096 * c.args.k - r.first = ap (λ (n : ℕ). 4096 * n - r.first) c.from.ensures in
    let whole : count ≡ 4096 = omega arith in
    let fits : begin + count ≤ length into = omega (arith, place, whole, c.requires.room, c.requires.whole.0, c.requires.whole.1) in
    let long : length page ≡ 4096 = c.read_whole.auto.into ∙ length-part into begin count (length into) refl fits ∙ whole in
    let same : put_mid begin count into page ≡ put_mid (4096 * c.args.k - r.first) 4096 into page = λ i. put_mid (place i) (whole i) into page in
    subst (λ (l : List ℕ). PartAnswer t.key t.tree a b r c.args.k into l c.read_whole.result) (sym same)
    (part_inside r c.args.k into page c.requires.whole.0 c.requires.whole.1 c.requires.room long t.key t.tree a b _ c.read_whole.result c.read_whole.ensures.answer)
