-- The end of all arms.
use Rattle.std.specs.Prelude.{◌≡◌, ℕ}
use Rattle.disk_model.specs.Controls.{disarmed}
use Rattle.rpmb_card.specs.Arms.{no_arms}
use Rattle.rpmb_card.specs.Port.{Rearmed}
use Rattle.run_acts.specs.Benches.{BenchState}

-- all arms were removed, and nothing else changed
pub record Disarms (old new : BenchState) : Type 0 where
  pub files : (file : ℕ) → new.files file ≡ disarmed (old.files file)
  pub card : Rearmed old.card new.card no_arms
