use Rattle.host_folder.proofs.Synced.{synced}
use Rattle.host_folder.proofs.folder_file.FolderFileStoreFile.sync.Goals as goal

pub returns-in-Ok-clause-synced : goal.returns-in-Ok-clause-synced
returns-in-Ok-clause-synced g c = synced c.args.self.now _ c.in-Ok.ensures.settled
