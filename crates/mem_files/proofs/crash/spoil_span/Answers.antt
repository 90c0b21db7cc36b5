use Rattle.std.proofs.Common.{arith}
use Rattle.mem_files.proofs.Spoilings.{span_spoiled, empty_spoiled}
use Rattle.mem_files.proofs.crash.spoil_span.Goals as goal

pub returns-then-span-gt0 : goal.returns-then-span-gt0
returns-then-span-gt0 c =
    span_spoiled c.args.span c.args.key c.saturating_add.result c.min-upto.result c.args.image.now c.spoil_sectors.new.image
    c.if-span-gt0.true c.saturating_add.ensures c.min-upto.ensures (omega arith) c.spoil_sectors.ensures

pub returns-else-span-gt0 : goal.returns-else-span-gt0
returns-else-span-gt0 c = empty_spoiled c.args.span c.args.key c.args.image.now (omega arith)
