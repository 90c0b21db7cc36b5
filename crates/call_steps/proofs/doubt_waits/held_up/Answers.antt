-- The doubt stands wherever the history is answered.
use Rattle.call_steps.proofs.GateCauses.{unavailable-leaves}
use Rattle.call_steps.proofs.HeldUps.{held-moves, held-told}
use Rattle.call_steps.proofs.Ruled.{quiet-served}
use Rattle.call_steps.proofs.doubt_waits.held_up.Goals as goal

pub answer-place-requires-clause-told : goal.answer-place-requires-clause-told
answer-place-requires-clause-told g c =
    let v = c.args.gate.now in
    held-told g.L.StoreName.store v.gate v.journal.knows v.closing c.args.session.now c.args.call c.args.cause c.requires.seen c.requires.cause c.reveal_invariant.ensures.guarded
    c.reveal_invariant.ensures.machine c.requires.doubt c.requires.proper

pub answer-place-requires-clause-moved : goal.answer-place-requires-clause-moved
answer-place-requires-clause-moved g c =
    let v = c.args.gate.now in
    held-moves g.L.StoreName.store v.gate v.journal.knows v.closing c.args.session.now c.args.call c.args.cause c.requires.seen c.requires.cause

pub returns-clause-served : goal.returns-clause-served
returns-clause-served g c =
    let e = c.answer-place.ensures in
    quiet-served g.L.StoreName.store c.args.call _ c.args.gate.now c.answer-place.new.self c.args.session.now c.answer-place.new.session (unavailable-leaves c.args.call c.args.cause)
    e.whole e.extends e.session e.place e.knows e.spare e.gate e.closing
