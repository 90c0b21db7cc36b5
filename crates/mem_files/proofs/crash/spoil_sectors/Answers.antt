use Rattle.std.proofs.Common.{arith}
use Rattle.mem_files.proofs.Spoilings.{sectors_none, sectors_more}
use Rattle.mem_files.proofs.crash.spoil_sectors.Goals as goal

pub loop-number-init : goal.loop-number-init
loop-number-init c = record { spoiled = sectors_none c.args.key c.args.from c.args.image.now; within = omega arith }

pub loop-number-preserved : goal.loop-number-preserved
loop-number-preserved c = record {
  spoiled = sectors_more c.args.key c.args.from c.loop-number.number c.args.image.now c.loop-number.image c.spoil_sector.new.image
      c.loop-number.auto.number c.loop-number.invariant.spoiled c.spoil_sector.ensures;
  within = omega arith;
}
