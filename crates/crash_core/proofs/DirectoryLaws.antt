-- The laws of directories that are read, and of the block that names one.
use Rattle.htree_file.specs.Pages.{opened_of}
use Rattle.crash_core.specs.DirectoryLaws.{BlocksAreReadBack, DirectoriesAreOpened, DirectoriesHaveEntries}
use Rattle.crash_core.proofs.CardBlocks.{root_in-block}
use Rattle.crash_core.proofs.Doubles.{directory_entries}
use Rattle.crash_core.proofs.SameDirectory.{directory_seen, seen_directory}

pub blocks_are_read_back : BlocksAreReadBack
blocks_are_read_back root is = root_in-block root is

pub directories_are_opened : DirectoriesAreOpened
directories_are_opened tsk image root entries = (directory_seen tsk image root entries, seen_directory tsk image root entries)

pub directories_have_entries : DirectoriesHaveEntries
directories_have_entries tsk image root entries is = directory_entries entries (opened_of tsk image root) (directory_seen tsk image root entries is)
