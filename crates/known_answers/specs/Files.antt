-- Files that are read and not written.
use Rattle.std.specs.Prelude.{◌≡◌, ℕ, List, IsTrue}
use Rattle.disk_model.specs.State.{FileState}

-- the file reads as these bytes, and tells that; no call but a write changes it
pub record IsKept (s : FileState) (bytes : List ℕ) : Type 0 where
  pub reads : s.reads ≡ bytes
  pub steady : IsTrue s.steady
  pub tells : IsTrue s.tells
