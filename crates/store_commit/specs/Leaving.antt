-- What calls leave of the devices of a store, whichever they were.
use Rattle.std.specs.Prelude.{ℕ, List, IsTrue}
use Rattle.disk_model.specs.State.{FileState, LeftNow}
use Rattle.rpmb_card.specs.Port.{PortState}
use Rattle.store_commit.specs.Causes.{KeepsPortArms}

-- Each image that a crash may leave of the file now, if it is honest, is one that a crash may have left before.
abbrev pub LeavesNoMore : (old new : FileState) → Type 0
LeavesNoMore old new = IsTrue new.honest → (image : List ℕ) → LeftNow new image → LeftNow old image

-- What exchanges leave of a port: calm lasts, and a port that tells its arms keeps them.
pub record KeepsPort (old new : PortState) : Type 0 where
  pub calm : IsTrue old.calm → IsTrue new.calm
  pub arms : KeepsPortArms old new
