use Rattle.mem_files.proofs.Spoilings.{spoiled_none, spoiled_more}
use Rattle.mem_files.proofs.crash.spoil.Goals as goal

pub loop-change-init : goal.loop-change-init
loop-change-init c = spoiled_none c.args.key c.args.image.now

pub loop-change-preserved : goal.loop-change-preserved
loop-change-preserved c =
    spoiled_more c.args.changes.now c.loop-change.change-index c.args.key (record { span = record { at = 0; length = 0 }; base = 0 })
    c.args.image.now c.loop-change.image c.spoil_span.new.image c.loop-change-test.true c.loop-change.invariant c.spoil_span.ensures
