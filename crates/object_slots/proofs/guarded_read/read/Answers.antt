use Rattle.object_slots.proofs.ReadVersions.{read_guarded}
use Rattle.object_slots.proofs.guarded_read.read.Goals as goal

pub returns-clause-guarded : goal.returns-clause-guarded
returns-clause-guarded g c =
    (read_guarded g.L.StoreName.store c.args.slot.now c.read.new.self c.args.at c.args.into.now c.read.new.into c.read.result c.read.ensures.same c.read.auto.into c.requires.guarded c.requires.live c.read.ensures.reads).0

pub returns-clause-version : goal.returns-clause-version
returns-clause-version g c =
    (read_guarded g.L.StoreName.store c.args.slot.now c.read.new.self c.args.at c.args.into.now c.read.new.into c.read.result c.read.ensures.same c.read.auto.into c.requires.guarded c.requires.live c.read.ensures.reads).1
