-- The slot is the one of the law.
use Rattle.call_steps.proofs.SettledSlots.{settles}
use Rattle.call_steps.proofs.stage_ends.settle_slot.Goals as goal

pub returns-clause-guarded : goal.returns-clause-guarded
returns-clause-guarded g c =
    settles g.L.StoreName.store c.args.slot.now c.give_seat.new.self c.end_stage.new.slot c.args.seat c.args.end c.args.place c.give_seat.ensures c.end_stage.ensures c.requires.ended
