use Rattle.dir_file.proofs.Settling.{settles}
use Rattle.dir_file.proofs.file.DirFile.settle.Goals as goal

pub returns-clause-answer : goal.returns-clause-answer
returns-clause-answer g c =
    let t = c.self.inside.tree in
    let u = c.settle.new.self in
    rw (← c.self.view_is)
    (settles t u (g.F.StoreFile.state t.file) (g.F.StoreFile.state u.file) c.self.inside.tsk c.self.inside.entries.items
    (g.met.F.StoreFile.sound t.file) (g.met.F.StoreFile.sound u.file) c.self.inside.next
    (rw (← c.self.view_is) at c.requires.open)
    c.settle.ensures.same c.settle.ensures.reads c.settle.ensures.firm c.settle.ensures.keeps c.settle.result c.settle.ensures.settled c.settle.ensures.open c.settle.ensures.next_firm c.settle.ensures.synced)
