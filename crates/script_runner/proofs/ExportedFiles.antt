-- The files of an export by their numbers.
use Rattle.std.proofs.Common.{◌≡◌, ℕ, zero, suc, List, [], ◌∷◌, inl, inr, refl, subst}
use Rattle.disk_model.specs.State.{FileState, no_file}
use Rattle.disk_model.specs.Calls.{GoesOn, Rests}
use Rattle.disk_model.proofs.Goings.{goes_on_none, rests_none}
use Rattle.folder_export.specs.declared.fault.FileFault.{FileFault as Fault}
use Rattle.folder_export.specs.Exports.{ExportsStore, StopsExport}
use Rattle.folder_export.specs.Folders.{states_of}
use Rattle.run_acts.specs.OpeningFiles.{files_of}
use Rattle.script_runner.specs.declared.status.Status.TheVariants.{Done, FileFault, NoMemory}
use Rattle.script_runner.specs.Exports.{CopiesFiles, FilesHadMemory}

states_each : {F : Type 0} (state : F → FileState) (files : List F) (k : ℕ) → states_of no_file state files k ≡ files_of state files k
states_each state [] k = refl
states_each state (file ∷ files) zero = refl
states_each state (file ∷ files) (suc k) = states_each state files k

pub states_are : {F : Type 0} (state : F → FileState) (files : List F) → states_of no_file state files ≡ files_of state files
states_are state files = λ i k. states_each state files k i

module _ {F G : Type 0} (state : F → FileState) (kept : G → FileState) where
  -- what holds of files of two kinds before and behind some calls
  pub by_numbers : (P : (files_old files_new folder_old folder_new : ℕ → FileState) → Type 0) (files files' : List F) (folder folder' : List G)
      → P (states_of no_file state files) (states_of no_file state files') (states_of no_file kept folder) (states_of no_file kept folder')
      → P (files_of state files) (files_of state files') (files_of kept folder) (files_of kept folder')
  by_numbers P files files' folder folder' holds =
      subst (λ (d : ℕ → FileState). P (files_of state files) (files_of state files') (files_of kept folder) d) (states_are kept folder')
      (subst (λ (c : ℕ → FileState). P (files_of state files) (files_of state files') c (states_of no_file kept folder')) (states_are kept folder)
      (subst (λ (b : ℕ → FileState). P (files_of state files) b (states_of no_file kept folder) (states_of no_file kept folder')) (states_are state files')
      (subst (λ (a : ℕ → FileState). P a (states_of no_file state files') (states_of no_file kept folder) (states_of no_file kept folder')) (states_are state files) holds)))

  module _ (files files' : List F) (folder folder' : List G) (block : List ℕ)
      (rests : (none : FileState) (k : ℕ) → Rests (states_of none state files k) (states_of none state files' k))
      (goes_on : (none : FileState) (k : ℕ) → GoesOn (states_of none kept folder k) (states_of none kept folder' k)) where
    all_rest : (k : ℕ) → Rests (files_of state files k) (files_of state files' k)
    all_rest = by_numbers (λ a b c d. (k : ℕ) → Rests (a k) (b k)) files files' folder folder' (rests no_file)

    all_go_on : (k : ℕ) → GoesOn (files_of kept folder k) (files_of kept folder' k)
    all_go_on = by_numbers (λ a b c d. (k : ℕ) → GoesOn (c k) (d k)) files files' folder folder' (goes_on no_file)

    -- all files were copied
    pub copies_done : ((none : FileState) → ExportsStore (states_of none state files) (states_of none state files') (states_of none kept folder) (states_of none kept folder') block)
        → CopiesFiles (files_of state files) (files_of state files') (files_of kept folder) (files_of kept folder') block Done
    copies_done all = record { rests = all_rest; goes_on = all_go_on; ends = by_numbers (λ a b c d. ExportsStore a b c d block) files files' folder folder' (all no_file) }

    module _ (fault : Fault) (stops : (none : FileState) → StopsExport (states_of none state files) (states_of none state files') (states_of none kept folder) (states_of none kept folder') fault) where
      stopped : StopsExport (files_of state files) (files_of state files') (files_of kept folder) (files_of kept folder') fault
      stopped = by_numbers (λ a b c d. StopsExport a b c d fault) files files' folder folder' (stops no_file)

      -- a call of a file failed, and none of the bench's found no memory
      pub copies_failed : FilesHadMemory (files_of state files) (files_of state files') (files_of kept folder) (files_of kept folder')
          → CopiesFiles (files_of state files) (files_of state files') (files_of kept folder) (files_of kept folder') block (FileFault fault)
      copies_failed had = record { rests = all_rest; goes_on = all_go_on; ends = (stopped, had) }

      -- or one did
      pub copies_starved : (FilesHadMemory (files_of state files) (files_of state files') (files_of kept folder) (files_of kept folder') → ⊥)
          → CopiesFiles (files_of state files) (files_of state files') (files_of kept folder) (files_of kept folder') block NoMemory
      copies_starved starved = record { rests = all_rest; goes_on = all_go_on; ends = inr (fault, stopped, starved) }

-- no file was called
pub copies_none : (files folder : ℕ → FileState) (block : List ℕ) → CopiesFiles files files folder folder block NoMemory
copies_none files folder block = record { rests = λ k. rests_none (files k); goes_on = λ k. goes_on_none (folder k); ends = inl (refl, refl) }
