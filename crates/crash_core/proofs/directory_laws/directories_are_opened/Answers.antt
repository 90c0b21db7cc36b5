use Rattle.crash_core.proofs.DirectoryLaws.{directories_are_opened}
use Rattle.crash_core.proofs.directory_laws.directories_are_opened.Goals as goal

pub returns : goal.returns
returns c = directories_are_opened
