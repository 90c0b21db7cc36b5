use Rattle.std.proofs.Common.{◌∙◌}
use Rattle.gcm_mode.proofs.Stream.{inc32-write}
use Rattle.gcm_mode.proofs.counter_mode.inc32.Goals as goal

pub returns : goal.returns
returns c = inc32-write c.args.block.now c.copy_from_slice.new.self _ c.told-block c.from_be_bytes-count.ensures (c.copy_from_slice.ensures.after ∙ c.to_be_bytes.ensures)
