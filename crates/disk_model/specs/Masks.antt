-- Bytes with armed masks over them.
use Rattle.std.specs.Prelude.{◌≡◌, ℕ, List, fold, Contains}
use Rattle.disk_model.specs.Images.{Has}
use Rattle.disk_model.specs.Bytes.{after_mask}
use Rattle.disk_model.specs.Arms.{Arms, Taint}

-- these masks laid over the bytes, one after another
abbrev pub with_masks : List Taint → List ℕ → List ℕ
with_masks masks bytes = fold (λ b taint. after_mask b taint.at taint.mask) bytes masks

-- The bytes are read with masks over them that are armed, and nothing else changed.
pub record AreMasked (arms : Arms) (bytes reads : List ℕ) : Type 0 where
  pub masks : List Taint
  pub armed : (taint : Taint) → Contains masks taint → Contains arms.taints taint
  pub are : reads ≡ with_masks masks bytes

-- At these places the bytes are read with masks over them that are armed.
pub record ReadsMasked (Kept : ℕ → Type 0) (arms : Arms) (bytes reads : List ℕ) : Type 0 where
  pub masks : List Taint
  pub armed : (taint : Taint) → Contains masks taint → Contains arms.taints taint
  pub are : (place byte : ℕ) → Kept place → Has (with_masks masks bytes) place byte → Has reads place byte
