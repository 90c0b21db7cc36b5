use Rattle.std.proofs.Common.{◌+◌, sym, subst, arith}
use Rattle.object_calls.proofs.NextEntries.{IsNextBefore, next_none, next_step, next_whole}
use Rattle.object_calls.proofs.object_walk.next_entry.Goals as goal

pub loop-index-init : goal.loop-index-init
loop-index-init g c = next_none c.args.gate.now.dir.dir.entries c.args.after.now

pub loop-index-preserved : goal.loop-index-preserved
loop-index-preserved g c =
    let entries = c.args.gate.now.dir.dir.entries in
    let after = c.args.after.now in
    let i = c.loop-index.index in
    subst (IsNextBefore entries after (i + 1)) (sym c.nearer-best.ensures)
    (next_step entries after i c.loop-index.best c.entry.result (sym c.entry.ensures) c.loop-index.invariant)

pub returns : goal.returns
returns g c = next_whole c.args.gate.now.dir.dir.entries c.args.after.now c.loop-index.index c.loop-index.best (omega arith) c.loop-index.invariant
