use Rattle.std.proofs.Common.{◌<◌, sym, subst, arith}
use Rattle.htree_file.specs.Value.{TreeValue}
use Rattle.block_file.specs.Parts.{PageAnswer}
use Rattle.block_file.proofs.Reading.{page_answer}
use Rattle.block_file.proofs.file.BlockFile.read_page.Goals as goal

pub returns-clause-answer : goal.returns-clause-answer
returns-clause-answer g c =
    let t = c.self.inside.tree in
    let new = g.F.StoreFile.state c.read_block.new.self.file in
    let e = c.read_block.ensures in
    let among = subst (λ (v : TreeValue g.row.F.Denot). c.args.k < v.tree.head.greatest) (sym c.self.view_is) c.requires in
    subst (λ (v : TreeValue g.row.F.Denot). PageAnswer v.key v.tree (g.F.StoreFile.state v.file) new c.args.k c.read_block.result c.read_block.new.into) c.self.view_is
    (page_answer t.key t.tree (g.F.StoreFile.state t.file) new c.args.k _ c.read_block.result c.read_block.new.into (omega (arith, among, e.verified.hashed.all)) c.read_block.array_long e.rests e.answer)
