-- The files of a bench, by their numbers: the first is that of an old directory, the last the directory's, and each of the others has an
-- object or none.
use Rattle.std.specs.Prelude.{ℕ, zero, suc, List, [], ◌∷◌}
use Rattle.tee_types.specs.Limits.{directory_file}
use Rattle.crash_core.specs.CoreState.{put}
use Rattle.disk_model.specs.State.{FileState, no_file}

-- what is known of the file at a place
abbrev pub files_of : {F : Type 0} → (F → FileState) → List F → ℕ → FileState
files_of state [] k = no_file
files_of state (f ∷ files) zero = state f
files_of state (f ∷ files) (suc k) = files_of state files k

-- of the files of objects, file 1 first
abbrev pub object_files : {F : Type 0} → (F → FileState) → List F → ℕ → FileState
object_files state files zero = no_file
object_files state files (suc i) = files_of state files i

-- all files of a bench that is taken apart: the spare one of an old directory, the directory's, and those of objects, file 1 first
abbrev pub numbered_files : {F : Type 0} → (F → FileState) → (spare dir : F) → List F → ℕ → FileState
numbered_files state spare dir files = put (files_of state (spare ∷ files)) directory_file (state dir)
