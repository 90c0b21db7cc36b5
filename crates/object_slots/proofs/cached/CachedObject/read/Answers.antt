use Rattle.std.proofs.Common.{◌≡◌, ◌+◌, ◌-◌, ◌++◌, ℕ, length, drop, min, IfOk, subst, refl, arith}
use Rattle.htree_file.specs.Pages.{page_in}
use Rattle.htree_file.specs.Standing.{Told}
use Rattle.page_bytes.specs.Pages.{bytes_from}
use Rattle.object_file.specs.Held.{held_in}
use Rattle.object_file.proofs.ObjectReads.{blocks_at, content_answer, corrupt_answer}
use Rattle.object_slots.proofs.cached.CachedObject.read.Goals as goal

pub returns-clause-blocks : goal.returns-clause-blocks
returns-clause-blocks g c =
    let o = c.self.inside.object in
    let a = g.F.StoreFile.state o.tree.file in
    let b = g.F.StoreFile.state c.read_bytes.new.object.tree.file in
    rw (← c.self.view_is) (blocks_at o.tree.key o.tree.tree a b c.from.result c.args.at (length c.args.into.now) c.read_bytes.result c.from.ensures c.read_bytes.ensures.blocks)

pub returns-clause-content : goal.returns-clause-content
returns-clause-content g c =
    let o = c.self.inside.object in
    let a = g.F.StoreFile.state o.tree.file in
    let b = g.F.StoreFile.state c.read_bytes.new.object.tree.file in
    let t = o.tree in
    rw (← c.self.view_is) (content_answer t.root t.key t.tree a b c.args.at c.read_bytes.new.into c.args.into.now
    (held_in o a.reads) c.read_bytes.result c.read_bytes.ensures.verified refl
    (subst (λ (p : ℕ). IfOk c.read_bytes.result (λ n. n ≡ min (length c.args.into.now) (t.tree.head.length - (4096 + p)))) c.from.ensures c.read_bytes.ensures.count)
    (subst (λ (p : ℕ). IfOk c.read_bytes.result (λ n. Told a b → c.read_bytes.new.into ≡ bytes_from (page_in a.reads t.key t.tree) (4096 + p) n ++ drop n c.args.into.now)) c.from.ensures c.read_bytes.ensures.content))

pub returns-clause-corrupt : goal.returns-clause-corrupt
returns-clause-corrupt g c =
    let o = c.self.inside.object in
    let a = g.F.StoreFile.state o.tree.file in
    let b = g.F.StoreFile.state c.read_bytes.new.object.tree.file in
    let t = o.tree in
    rw (← c.self.view_is) (corrupt_answer t.root t.key t.tree a b c.args.at (min (length c.args.into.now) (t.tree.head.length - 4096 - c.args.at))
    (held_in o a.reads) c.read_bytes.result c.read_bytes.ensures.verified (omega arith) refl c.read_bytes.ensures.rests
    (blocks_at t.key t.tree a b c.from.result c.args.at (length c.args.into.now) c.read_bytes.result c.from.ensures c.read_bytes.ensures.blocks))
