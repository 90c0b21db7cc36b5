use Rattle.crash_core.proofs.DirectoryLaws.{blocks_are_read_back}
use Rattle.crash_core.proofs.directory_laws.blocks_are_read_back.Goals as goal

pub returns : goal.returns
returns c = blocks_are_read_back
