-- A table of the live entries of a card, as contracts see it.
use Rattle.std.specs.Prelude.{ℕ, Bool, List, Option}

-- the bytes of each of the 256 blocks that is a live entry; which blocks are used
pub record TableState : Type 0 where
  pub entries : List (Option (List ℕ))
  pub used : List Bool
