-- A sink in memory, as contracts see it.
use Rattle.std.specs.Prelude.{ℕ, List, ◌++◌, Result, Ok, Err, take}
use Rattle.tee_ports.specs.declared.failed.Failed.{Failed}
use Rattle.tee_ports.specs.Faults.{next_count}

-- the bytes that were put, how many there is room for in all, the numbers of the calls that fail, and how many calls
-- were made and failed
pub record SinkState : Type 0 where
  pub held : List ℕ
  pub room : ℕ
  pub failing : List ℕ
  pub calls : ℕ
  pub faults : ℕ

-- the state after a call of `put` with this piece and this answer: taken bytes are held, and a fault is counted
abbrev pub sink_after : SinkState → List ℕ → Result ℕ Failed → SinkState
sink_after s piece (Ok n) =
    record s { held = s.held ++ take n piece; calls = next_count s.calls }
sink_after s piece (Err e) =
    record s { calls = next_count s.calls; faults = next_count s.faults }
