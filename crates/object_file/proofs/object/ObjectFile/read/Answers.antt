use Rattle.std.proofs.Common.{◌≡◌, ◌+◌, ◌-◌, ◌++◌, ℕ, length, drop, min, IfOk, subst, refl, arith}
use Rattle.htree_file.specs.Pages.{page_in}
use Rattle.htree_file.specs.Standing.{Told}
use Rattle.page_bytes.specs.Pages.{bytes_from}
use Rattle.object_file.specs.Held.{held_in}
use Rattle.object_file.proofs.ObjectReads.{blocks_at, content_answer, corrupt_answer}
use Rattle.object_file.proofs.object.ObjectFile.read.Goals as goal

pub returns-clause-blocks : goal.returns-clause-blocks
returns-clause-blocks g c =
    let a = g.F.StoreFile.state c.self.inside.file.file in
    let b = g.F.StoreFile.state c.read.new.self.file in
    let tree = c.self.inside.file in
    rw (← c.self.view_is) (blocks_at tree.key tree.tree a b c.from.result c.args.at (length c.args.into.now) c.read.result c.from.ensures c.read.ensures.blocks)

pub returns-clause-content : goal.returns-clause-content
returns-clause-content g c =
    let a = g.F.StoreFile.state c.self.inside.file.file in
    let b = g.F.StoreFile.state c.read.new.self.file in
    let tree = c.self.inside.file in
    rw (← c.self.view_is) (content_answer tree.root tree.key tree.tree a b c.args.at c.read.new.into c.args.into.now
    (held_in (record { tree = tree; attributes = c.self.inside.attributes.items }) a.reads) c.read.result c.read.ensures.verified refl
    (subst (λ (p : ℕ). IfOk c.read.result (λ n. n ≡ min (length c.args.into.now) (tree.tree.head.length - (4096 + p)))) c.from.ensures c.read.ensures.count)
    (subst (λ (p : ℕ). IfOk c.read.result (λ n. Told a b → c.read.new.into ≡ bytes_from (page_in a.reads tree.key tree.tree) (4096 + p) n ++ drop n c.args.into.now)) c.from.ensures c.read.ensures.content))

pub returns-clause-corrupt : goal.returns-clause-corrupt
returns-clause-corrupt g c =
    let a = g.F.StoreFile.state c.self.inside.file.file in
    let b = g.F.StoreFile.state c.read.new.self.file in
    let tree = c.self.inside.file in
    rw (← c.self.view_is) (corrupt_answer tree.root tree.key tree.tree a b c.args.at (min (length c.args.into.now) (tree.tree.head.length - 4096 - c.args.at))
    (held_in (record { tree = tree; attributes = c.self.inside.attributes.items }) a.reads) c.read.result c.read.ensures.verified (omega arith) refl c.read.ensures.rests
    (blocks_at tree.key tree.tree a b c.from.result c.args.at (length c.args.into.now) c.read.result c.from.ensures c.read.ensures.blocks))
