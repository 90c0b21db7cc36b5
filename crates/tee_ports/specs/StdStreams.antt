-- A stream of the process, as contracts see it.
use Rattle.std.specs.Prelude.{ℕ, Bool}

-- the reader or the writer, whether its end was met, and how many calls failed
pub record StreamState (S : Type 0) : Type 0 where
  pub stream : S
  pub at_end : Bool
  pub faults : ℕ
