use Rattle.std.proofs.Common.{rules, ◌∙◌, map-id, sym, ap, arith}
use Rattle.std.proofs.lemmas.Iterator.Adapters.{YieldsList-from_vec}
use Rattle.std.proofs.lemmas.Iterator.Consumers.{YieldsList-end, YieldsList-turn}
use Rattle.run_acts.specs.QuotaCrews.{lists_of, sessions_of}
use Rattle.run_acts.proofs.quota_crew.dismiss.Goals as goal

pub unwrap-requires : goal.unwrap-requires
unwrap-requires g c =
    let l = c.loop-worker in
    let turn = YieldsList-turn (YieldsList-from_vec {s = c.into_iter-worker-iterator.result} c.args.workers.items (search rules) (search rules))
    l.yielded l.worker-iterator l.yielded_by c.next.result c.next.new.self c.in-Some.worker c.in-Some.is c.next.ensures.steps in
    c.push.ensures.succeeds (omega (arith, turn.0, l.invariant.sessions_many, l.invariant.room, c.args.workers.ok.0, c.requires.few))

pub unwrap-requires-in-loop-worker : goal.unwrap-requires-in-loop-worker
unwrap-requires-in-loop-worker g c =
    let l = c.loop-worker in
    let turn = YieldsList-turn (YieldsList-from_vec {s = c.into_iter-worker-iterator.result} c.args.workers.items (search rules) (search rules))
    l.yielded l.worker-iterator l.yielded_by c.next.result c.next.new.self c.in-Some.worker c.in-Some.is c.next.ensures.steps in
    c.push-in-loop-worker.ensures.succeeds (omega (arith, turn.0, l.invariant.lists_many, l.invariant.list_room, c.args.workers.ok.0, c.requires.few))

pub returns-clause-sessions : goal.returns-clause-sessions
returns-clause-sessions g c =
    let l = c.loop-worker in
    let end = YieldsList-end (YieldsList-from_vec {s = c.into_iter-worker-iterator.result} c.args.workers.items (search rules) (search rules))
    l.yielded l.worker-iterator l.yielded_by c.next.result c.next.new.self c.in-None.is c.next.ensures.steps in
    l.invariant.sessions ∙ ap sessions_of (sym (map-id l.yielded) ∙ end.0)

pub returns-clause-lists : goal.returns-clause-lists
returns-clause-lists g c =
    let l = c.loop-worker in
    let end = YieldsList-end (YieldsList-from_vec {s = c.into_iter-worker-iterator.result} c.args.workers.items (search rules) (search rules))
    l.yielded l.worker-iterator l.yielded_by c.next.result c.next.new.self c.in-None.is c.next.ensures.steps in
    l.invariant.lists ∙ ap lists_of (sym (map-id l.yielded) ∙ end.0)
