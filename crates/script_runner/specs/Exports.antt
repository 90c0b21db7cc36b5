-- The run of a script, and the export of the bench that it leaves.
use Rattle.std.specs.Prelude.{ℕ, ◌≡◌, ◌⊎◌, List, [], Option}
use Rattle.disk_model.specs.State.{FileState}
use Rattle.disk_model.specs.Calls.{GoesOn, Rests}
use Rattle.hmac_keys.specs.declared.Keys.{Keys}
use Rattle.rpmb_card.specs.Port.{PortState}
use Rattle.folder_export.specs.declared.fault.FileFault.{FileFault as Fault}
use Rattle.folder_export.specs.Exports.{ExportsStore, StopsExport}
use Rattle.run_acts.specs.Benches.{BenchState}
use Rattle.run_acts.specs.declared.MountFault.{MountFault}
use Rattle.run_acts.specs.Opens.{IsBlockUnread, ReadsBlock}
use Rattle.script_runner.specs.declared.status.Status.{Status}
use Rattle.script_runner.specs.declared.status.Status.TheVariants.{Done, FileFault, NoMemory}
use Rattle.script_runner.specs.Prints.{PrintsRefusal}
use Rattle.script_runner.specs.RunCauses.{RunsItsScript, World}
use Rattle.script_runner.specs.Runs.{RunsSource}

-- the files of the bench and of the folder, by their numbers
module _ (files_old files_new folder_old folder_new : ℕ → FileState) where
  -- in no call of a file of the bench did memory run out
  abbrev pub FilesHadMemory : Type 0
  FilesHadMemory = (file : ℕ) → (files_new file).starved ≡ (files_old file).starved

  -- How the copies of the files ended: all were made, behind them that of the block; or a call of a file failed; or there was no memory, before
  -- any call or in a call of a file of the bench.
  abbrev pub EndsCopies : (block : List ℕ) → Status → Type 0
  EndsCopies block Done = ExportsStore files_old files_new folder_old folder_new block
  EndsCopies block (FileFault fault) = StopsExport files_old files_new folder_old folder_new fault × FilesHadMemory
  EndsCopies block NoMemory =
      ((files_new ≡ files_old) × (folder_new ≡ folder_old))
      ⊎ ((fault : Fault) × StopsExport files_old files_new folder_old folder_new fault × (FilesHadMemory → ⊥))
  EndsCopies block _ = ⊥

  -- The files of the bench were only read, and those of the folder go on.
  pub record CopiesFiles (block : List ℕ) (status : Status) : Type 0 where
    pub rests : (file : ℕ) → Rests (files_old file) (files_new file)
    pub goes_on : (file : ℕ) → GoesOn (folder_old file) (folder_new file)
    pub ends : EndsCopies block status

-- `drew` and `draws`: how many faults the generator of nonces counted before the export and behind it
module _ (keys : Keys) (drew draws : ℕ) (handed given : BenchState) (folder_old folder_new : ℕ → FileState) where
  -- The card's block 0 was read, and the files were copied.
  pub record CopiesBench (status : Status) : Type 0 where
    pub block : List ℕ
    pub between : BenchState
    pub reads : ReadsBlock keys handed between block
    pub undrawn : draws ≡ drew
    pub card : given.card ≡ between.card
    pub copies : CopiesFiles between.files given.files folder_old folder_new block status

  -- What the export did: the block could not be read, which was told, and no file was called; or the files were copied, and nothing was put.
  pub data ExportsBench (failed : Type 0) (held_old held_new : Option (List ℕ)) (status : Status) : Type 0 where
    unread : (fault : MountFault) → IsBlockUnread keys handed given drew draws fault → folder_new ≡ folder_old
        → PrintsRefusal failed held_old held_new [] fault status → ExportsBench failed held_old held_new status
    copied : CopiesBench status → held_new ≡ held_old → ExportsBench failed held_old held_new status

-- Where the run was not done, nothing more was; else the bench that it left was exported. The sink then held what it held.
pub data RunsExport {F R : Type 0} (of_file : F → FileState) (of_port : R → PortState) (image : FileState → ℕ → ℕ → List ℕ) (Reliable : Type 0)
    (left_old left_new held_old held_new : Option (List ℕ)) (w : World) (drew draws : ℕ) (keys : Keys) (handed given : BenchState) (folder_old folder_new : ℕ → FileState) (status : Status) : Type 0 where
  undone : RunsSource of_file of_port image Reliable left_old left_new held_old held_new w drew draws keys handed given status → (status ≡ Done → ⊥) → folder_new ≡ folder_old
      → RunsExport of_file of_port image Reliable left_old left_new held_old held_new w drew draws keys handed given folder_old folder_new status
  exported : (between : BenchState) (held : Option (List ℕ)) (drawn : ℕ)
      → RunsSource of_file of_port image Reliable left_old left_new held_old held w drew drawn keys handed between Done
      → ExportsBench keys drawn draws between given folder_old folder_new (w.sink_failed ⊎ w.sink_full) held held_new status
      → RunsExport of_file of_port image Reliable left_old left_new held_old held_new w drew draws keys handed given folder_old folder_new status

-- The script was run, or it was done and then a call of a file failed.
abbrev pub ExportsItsScript : Status → Type 0
ExportsItsScript (FileFault fault) = Unit {0}
ExportsItsScript status = RunsItsScript status
