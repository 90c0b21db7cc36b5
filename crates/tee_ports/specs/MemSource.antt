-- A source in memory, as contracts see it.
use Rattle.std.specs.Prelude.{ℕ, List, Result, Ok, Err, drop}
use Rattle.tee_ports.specs.declared.failed.Failed.{Failed}
use Rattle.tee_ports.specs.Faults.{next_count}

-- the bytes that are still to come, the numbers of the calls that fail, and how many calls were made and failed
pub record SourceState : Type 0 where
  pub left : List ℕ
  pub failing : List ℕ
  pub calls : ℕ
  pub faults : ℕ

-- the state after a call of `next` with this answer: given bytes are gone, and a fault is counted
abbrev pub source_after : SourceState → Result ℕ Failed → SourceState
source_after s (Ok n) =
    record s { left = drop n s.left; calls = next_count s.calls }
source_after s (Err e) =
    record s { calls = next_count s.calls; faults = next_count s.faults }
