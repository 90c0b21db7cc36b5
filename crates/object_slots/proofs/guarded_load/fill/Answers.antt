use Rattle.object_slots.proofs.Filled.{fill_guarded}
use Rattle.object_slots.proofs.guarded_load.fill.Goals as goal

pub returns-clause-guarded : goal.returns-clause-guarded
returns-clause-guarded g c =
    (fill_guarded g.L.StoreName.store c.args.slot.now c.fill.new.self c.args.entry.now c.args.tsk.now c.requires.key c.requires.guarded c.requires.given c.fill.ensures.same c.fill.result c.fill.ensures.loads).0

pub returns-clause-damaged : goal.returns-clause-damaged
returns-clause-damaged g c =
    (fill_guarded g.L.StoreName.store c.args.slot.now c.fill.new.self c.args.entry.now c.args.tsk.now c.requires.key c.requires.guarded c.requires.given c.fill.ensures.same c.fill.result c.fill.ensures.loads).1
