-- Files of a bench that are saved, put back and altered.
use Rattle.std.specs.Prelude.{◌≡◌, ◌≢◌, ◌<◌, ℕ, List, length, slice_get, Some}
use Rattle.disk_model.specs.Bytes.{after_mask}
use Rattle.disk_model.specs.Controls.{renamed_as, settled_as}
use Rattle.disk_model.specs.State.{FileState}
use Rattle.tee_types.specs.Limits.{directory_file, file_count}
use Rattle.tee_types.specs.declared.reply.Device.{Device}
use Rattle.tee_types.specs.declared.reply.Device.TheVariants.{File}
use Rattle.run_acts.specs.Benches.{BenchState}

-- the number of a file
abbrev pub file_number : Device → ℕ
file_number (File number) = number
file_number device = directory_file

-- What each file reads as, file 0 first.
pub record SavesFiles (bench : BenchState) (images : List (List ℕ)) : Type 0 where
  pub count : length images ≡ file_count
  pub each : (file : ℕ) → file < file_count → slice_get images file ≡ Some (bench.files file).reads

-- That file of the bench is so now, and nothing else of it changed.
pub record AltersFile (file : ℕ) (altered : FileState) (old new : BenchState) : Type 0 where
  pub within : file < file_count
  pub here : new.files file ≡ altered
  pub others : (k : ℕ) → k ≢ file → new.files k ≡ old.files k
  pub card : new.card ≡ old.card

-- These bytes were put back: they are what the file reads as and has settled, and it is honest from then on.
abbrev pub RestoresFile : (file : ℕ) → (bytes : List ℕ) → (old new : BenchState) → Type 0
RestoresFile file bytes old new = AltersFile file (renamed_as (old.files file) bytes) old new

-- A mask was laid over the bytes from a place on, where there are bytes, and they were settled.
abbrev pub FlipsFile : (file at : ℕ) → (mask : List ℕ) → (old new : BenchState) → Type 0
FlipsFile file at mask old new = AltersFile file (settled_as (old.files file) (after_mask (old.files file).reads at mask)) old new
