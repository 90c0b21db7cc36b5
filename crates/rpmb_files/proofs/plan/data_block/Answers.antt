use Rattle.std.proofs.Common.{◌*◌}
use Rattle.rpmb_files.proofs.DataBlocks.{filled_is}
use Rattle.rpmb_files.proofs.plan.data_block.Goals as goal

pub returns : goal.returns
returns c =
    filled_is c.args.bytes.now c.put.new.bytes (256 * c.args.i) c.min-start.result c.min-end.result c.min-start.ensures c.min-end.ensures c.put.ensures
