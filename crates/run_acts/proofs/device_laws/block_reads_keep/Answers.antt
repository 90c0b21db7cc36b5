use Rattle.run_acts.proofs.Opened.{block_reads_keep}
use Rattle.run_acts.proofs.device_laws.block_reads_keep.Goals as goal

pub returns : goal.returns
returns c = block_reads_keep
