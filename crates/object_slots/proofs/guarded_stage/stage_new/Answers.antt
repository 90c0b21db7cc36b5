use Rattle.object_slots.proofs.NewSlots.{new_leaves}
use Rattle.object_slots.proofs.guarded_stage.stage_new.Goals as goal

pub returns-clause-leaves : goal.returns-clause-leaves
returns-clause-leaves g c =
    new_leaves g.L.StoreName.store c.args.slot.now c.stage_new.new.self c.args.tsk.now c.args.attributes.now c.args.bytes.now c.requires.attributes c.requires.guarded c.requires.vacant c.requires.calm c.requires.unknown
    c.stage_new.ensures.same c.stage_new.result c.stage_new.ensures.makes
