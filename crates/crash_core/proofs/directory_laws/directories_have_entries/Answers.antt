use Rattle.crash_core.proofs.DirectoryLaws.{directories_have_entries}
use Rattle.crash_core.proofs.directory_laws.directories_have_entries.Goals as goal

pub returns : goal.returns
returns c = directories_have_entries
