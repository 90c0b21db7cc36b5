-- What a run keeps between two acts: its bench, what was saved of the files under marks, its quotas, and its arms.
use Rattle.std.specs.Prelude.{◌≡◌, ℕ, nat_lt, if◌then◌else◌, List, [], ◌∷◌, ◌++◌, Option, Some, None, option_and_then, slice_get}
use Rattle.std.specs.Map.{lookup}
use Rattle.std.proofs.Common.{Vec, Global}
use Rattle.disk_model.specs.State.{FileState}
use Rattle.app_quota.specs.declared.quotas.Quota.{Quota}
use Rattle.tee_types.specs.Limits.{file_count}
use Rattle.tee_types.specs.declared.reply.Device.{Device}
use Rattle.script_text.specs.declared.script.Arm.{Arm}
use Rattle.script_text.specs.Words.{same_word}
use Rattle.run_acts.specs.Alterations.{RestoresFile, file_number}
use Rattle.run_acts.specs.Benches.{BenchState}
use Rattle.script_runner.specs.declared.saved_files.SavedFiles.{SavedFiles}

-- the bytes of each file that are kept under a mark, if the mark was saved and there is such a file
abbrev pub Saved : Type 0
Saved = (mark : List ℕ) → (file : ℕ) → Option (List ℕ)

abbrev pub nothing_saved : Saved
nothing_saved mark file = None

-- what a map of images by their marks keeps
abbrev pub saved_in : List (Vec ℕ Global × Vec (List ℕ) Global) → Saved
saved_in entries mark file = option_and_then (λ images. slice_get images.items file) (lookup (λ key. same_word mark key.items) entries)

abbrev pub saved_of : SavedFiles → Saved
saved_of s = saved_in s.kept.entries

-- what the files of a bench read as
abbrev pub reads_saved : (ℕ → FileState) → (file : ℕ) → Option (List ℕ)
reads_saved files file = if nat_lt file file_count then Some (files file).reads else None

-- that is kept too; under the same mark it replaces what was
abbrev pub with_saved : Saved → (mark : List ℕ) → (ℕ → Option (List ℕ)) → Saved
with_saved saved mark images other file = if same_word other mark then images file else saved other file

-- a run between two acts: the bench, what was kept of its files, the quotas of the phases to come, and the arms that wait for the next phase
pub record Standing : Type 0 where
  pub bench : BenchState
  pub saved : Saved
  pub quotas : List Quota
  pub arms : List Arm

abbrev pub with_bench : Standing → BenchState → Standing
with_bench s bench = record s { bench = bench }

-- so behind a phase: it was run with the arms that waited
abbrev pub served : Standing → BenchState → Standing
served s bench = record s { bench = bench; arms = [] }

-- nothing was kept yet, no quota was set, and no arm waits
abbrev pub begins_with : BenchState → Standing
begins_with bench = record { bench = bench; saved = nothing_saved; quotas = []; arms = [] }

-- one arm more waits
abbrev pub awaits_arm : Arm → Standing → Standing
awaits_arm arm s = record s { arms = s.arms ++ arm ∷ [] }

-- the files were saved under that mark
abbrev pub saves_files : (mark : List ℕ) → Standing → Standing
saves_files mark s = record s { saved = with_saved s.saved mark (reads_saved (s.bench).files) }

-- an application has a quota more: its last one counts
abbrev pub quota_for : (app : List ℕ) → (objects bytes : ℕ) → Quota
quota_for app objects bytes = record { app = app; objects = objects; bytes = bytes }

abbrev pub sets_quota : Quota → Standing → Standing
sets_quota quota s = record s { quotas = s.quotas ++ quota ∷ [] }

-- These bytes were put back; where none are kept, nothing was done.
abbrev pub PutsBack : (file : ℕ) → Option (List ℕ) → (old new : BenchState) → Type 0
PutsBack file None old new = new ≡ old
PutsBack file (Some bytes) old new = RestoresFile file bytes old new

-- what was kept of the file under that mark was put back
abbrev pub RestoresSaved : (file : Device) → (mark : List ℕ) → Standing → BenchState → Type 0
RestoresSaved file mark s new = PutsBack (file_number file) (s.saved mark (file_number file)) s.bench new
