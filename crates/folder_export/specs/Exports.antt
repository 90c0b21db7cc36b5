-- A store is exported: each file of a bench is copied into the folder's file of its number, and the card's block goes into the last.
use Rattle.std.specs.Prelude.{◌≡◌, ℕ, ◌<◌, List}
use Rattle.tee_types.specs.Limits.{file_count}
use Rattle.disk_model.specs.State.{FileState}
use Rattle.folder_export.specs.declared.fault.FileFault.{FileFault}
use Rattle.folder_export.specs.declared.fault.FilePlace.TheVariants.{Folder}
use Rattle.folder_export.specs.Copies.{CopiesFile, FileFailed, OneFailed, WritesFile}

-- the files of the bench by their numbers, and those of the folder
module _ (files_old files_new folder_old folder_new : ℕ → FileState) where
  -- each file below a number was copied
  abbrev pub CopiesBelow : (count : ℕ) → Type 0
  CopiesBelow count = (k : ℕ) → k < count → CopiesFile (files_old k) (files_new k) (folder_old k) (folder_new k)

  -- all of them were, and the block was put behind them
  pub record ExportsStore (block : List ℕ) : Type 0 where
    pub files : CopiesBelow file_count
    pub block_file : WritesFile block (folder_old file_count) (folder_new file_count)

  -- The export was given up at a file: those below it were copied, and those above it are as they were.
  pub record StopsAt (fault : FileFault) (number : ℕ) : Type 0 where
    pub within : number < file_count
    pub below : CopiesBelow number
    pub failed : OneFailed fault.place fault.count number (files_old number) (files_new number) (folder_old number) (folder_new number)
    pub files : (k : ℕ) → number < k → files_new k ≡ files_old k
    pub folder : (k : ℕ) → number < k → folder_new k ≡ folder_old k

  -- It was given up at the block: all files were copied.
  pub record StopsAtBlock (fault : FileFault) : Type 0 where
    pub below : CopiesBelow file_count
    pub place : fault.place ≡ Folder file_count
    pub failed : FileFailed (folder_old file_count) (folder_new file_count) fault.count

  -- A call of a file failed, and no other call did.
  pub data StopsExport (fault : FileFault) : Type 0 where
    at_file : (number : ℕ) → StopsAt fault number → StopsExport fault
    at_block : StopsAtBlock fault → StopsExport fault
