-- What may become of a bench between two mounts.
use Rattle.std.specs.Prelude.{◌≡◌, ◌⊎◌, ℕ, List, IsTrue}
use Rattle.disk_model.specs.Calls.{Known}
use Rattle.disk_model.specs.Controls.{renamed_as}
use Rattle.disk_model.specs.State.{FileState, LeftNow, Sound}
use Rattle.run_acts.specs.Benches.{BenchState}

-- the file took an image that a crash may leave
abbrev pub TakesImage : (old new : FileState) → Type 0
TakesImage old new = (image : List ℕ) × LeftNow old image × (new ≡ renamed_as old image)

-- Each file is as it was, or took an image that a crash may leave; the card is as it was.
pub record MayCrash (old new : BenchState) : Type 0 where
  pub files : (file : ℕ) → (new.files file ≡ old.files file) ⊎ TakesImage (old.files file) (new.files file)
  pub card : new.card ≡ old.card

-- what holds of every file
abbrev pub AreSound : (ℕ → FileState) → Type 0
AreSound files = (file : ℕ) → Sound (files file)

-- no call but a write changes what a file reads as
abbrev pub AreSteady : (ℕ → FileState) → Type 0
AreSteady files = (file : ℕ) → IsTrue (files file).steady

-- Each file can be followed from old to new: it is honest still, or it was steady.
abbrev pub AreReadable : (old new : ℕ → FileState) → Type 0
AreReadable old new = (file : ℕ) → Known (old file) (new file)
