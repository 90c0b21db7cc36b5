use Rattle.std.proofs.Common.{arith}
use Rattle.mem_files.proofs.Choosing.{chosen_part}
use Rattle.mem_files.proofs.crash.choose_range.Goals as goal

pub loop-at-preserved : goal.loop-at-preserved
loop-at-preserved c =
    let l = c.loop-at in
    let after = c.choose_part.new in
    record {
      chosen = chosen_part c.args.from l.at c.min-end.result c.args.unit c.args.key c.toss.result c.args.settled.now c.args.bytes.now
          l.settled l.bytes after.settled after.bytes l.invariant.after (omega arith) c.requires.some (omega arith) c.toss.ensures
          l.auto.bytes l.invariant.chosen c.choose_part.ensures;
      after = omega arith;
      within = omega arith;
    }
