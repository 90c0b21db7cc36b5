-- The pages of a directory without objects.
use Rattle.std.specs.Prelude.{◌≡◌, ℕ, ◌<◌, List, [], length, get_or, replicate}

-- eight pages of zeros
pub record AreBlank (pages : List (List ℕ)) : Type 0 where
  pub long : length pages ≡ 8
  pub zero : (k : ℕ) → k < 8 → get_or pages k [] ≡ replicate 4096 0
