-- A crash of the files of a bench.
use Rattle.std.specs.Prelude.{◌≡◌, ◌<◌, ◌≤◌, ℕ, List}
use Rattle.disk_model.specs.Controls.{renamed_as}
use Rattle.disk_model.specs.State.{FileState, LeftNow}
use Rattle.tee_types.specs.Limits.{file_count}
use Rattle.run_acts.specs.Benches.{BenchState}

module _ (image : FileState → ℕ → ℕ → List ℕ) (seed : ℕ) where
  -- the file took the image that the seed and its number pick
  abbrev pub CrashesFile : (old new : FileState) → (file : ℕ) → Type 0
  CrashesFile old new file = new ≡ renamed_as old (image old seed file)

  -- The files below a number took their images, and each image is one that a crash may leave; the others are as they were.
  pub record CrashesBelow (count : ℕ) (old new : ℕ → FileState) : Type 0 where
    pub each : (file : ℕ) → file < count → CrashesFile (old file) (new file) file
    pub left : (file : ℕ) → file < count → LeftNow (old file) (image (old file) seed file)
    pub others : (file : ℕ) → count ≤ file → new file ≡ old file

  -- So all files of a bench, whose card stays.
  pub record Crashes (old new : BenchState) : Type 0 where
    pub files : CrashesBelow file_count old.files new.files
    pub card : new.card ≡ old.card

  -- Memory ran out in the crash: the files below some number took their images, the others are as they were.
  pub record CrashesInPart (old new : BenchState) : Type 0 where
    pub count : ℕ
    pub within : count ≤ file_count
    pub files : CrashesBelow count old.files new.files
    pub card : new.card ≡ old.card
