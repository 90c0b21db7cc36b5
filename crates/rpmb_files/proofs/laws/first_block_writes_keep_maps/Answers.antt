use Rattle.rpmb_files.proofs.FirstBlock.{first_block_writes, other_blocks_tell}
use Rattle.rpmb_files.proofs.laws.first_block_writes_keep_maps.Goals as goal

pub returns-clause-told : goal.returns-clause-told
returns-clause-told c = other_blocks_tell

pub returns-clause-writes : goal.returns-clause-writes
returns-clause-writes c = first_block_writes
