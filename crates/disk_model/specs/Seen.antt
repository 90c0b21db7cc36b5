-- What a file read as at an earlier moment, and what the masks that struck since made of it.
use Rattle.std.specs.Prelude.{ℕ, List, Bool, IsTrue}
use Rattle.disk_model.specs.Images.{Has, SameAt}
use Rattle.disk_model.specs.Arms.{Taint}
use Rattle.disk_model.specs.State.{FileState}
use Rattle.disk_model.specs.Keeps.{Runs}
pub use Rattle.disk_model.specs.Masks.{with_masks, AreMasked, ReadsMasked}

-- At a moment up to now the file read as bytes of which this holds, if it tells them; and no call since then wrote at these places.
-- If it tells its arms, it read there as it did at old, with armed masks over that.
pub record WasSeen (Kept : ℕ → Type 0) (old now : FileState) (Shown : List ℕ → Type 0) : Type 0 where
  pub past : FileState
  pub since : Runs Kept past now
  pub shown : IsTrue past.tells → Shown past.reads
  pub masked : IsTrue old.tells_arms → ReadsMasked Kept old.arms old.reads past.reads

-- A law: calls that write at none of these places leave what a file that tells its arms read there, but for masks that were armed.
abbrev pub RunsReadMasked : Type 0
RunsReadMasked = (kept : ℕ → Bool) (old new : FileState) → Runs (λ place. IsTrue (kept place)) old new → IsTrue old.tells_arms
    → ReadsMasked (λ place. IsTrue (kept place)) old.arms old.reads new.reads

-- A law: where bytes are read with masks over them, the same masks laid over once more give them back.
abbrev pub MasksUndo : Type 0
MasksUndo = (masks : List Taint) (bytes reads : List ℕ) (place byte : ℕ) → Has bytes place byte → SameAt place (with_masks masks bytes) reads
    → Has (with_masks masks reads) place byte
