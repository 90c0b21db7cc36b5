use Rattle.std.proofs.Common.{◌/◌}
use Rattle.mem_files.specs.Crash.{coin}
use Rattle.mem_files.proofs.Choosing.{chosen_more}
use Rattle.mem_files.proofs.crash.choose.Goals as goal

pub loop-change-preserved : goal.loop-change-preserved
loop-change-preserved c =
    let l = c.loop-change in
    let after = c.choose_span.new in
    chosen_more c.args.changes.now l.change-index (record { span = record { at = 0; length = 0 }; base = 0 })
    (λ place. coin c.args.key (place / c.args.unit)) c.args.settled.now c.args.bytes.now l.settled l.bytes after.settled after.bytes
    c.loop-change-test.true l.auto.bytes l.invariant c.choose_span.ensures
