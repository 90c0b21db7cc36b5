-- A generator in memory, as contracts see it.
use Rattle.std.specs.Prelude.{◌≡◌, ℕ, List, ◌++◌, All, Result, Ok, Err}
use Rattle.std.specs.Int.{w64, to_le_bytes}
use Rattle.tee_ports.specs.declared.failed.Failed.{Failed}
use Rattle.disk_model.specs.Faults.{next_count}

-- the numbers of the calls that fail, the generator's own number, and how many calls were made and failed
pub record DrawState : Type 0 where
  pub failing : List ℕ
  pub number : ℕ
  pub calls : ℕ
  pub faults : ℕ

-- no call fails, since none has the number 0
abbrev pub NeverFails : DrawState → Type 0
NeverFails s = All (λ call. call ≡ 0) s.failing

-- the state after a call of `draw` with this answer: a fault is counted
abbrev pub draw_after : {A : Type 0} → DrawState → Result A Failed → DrawState
draw_after s (Ok drawn) = record s { calls = next_count s.calls }
draw_after s (Err e) = record s { calls = next_count s.calls; faults = next_count s.faults }

-- The bytes that the next call of `draw` gives where it does not fail: the number of that call, and the generator's own
-- number, each in 8 bytes, the least first.
abbrev pub drawn_of : DrawState → List ℕ
drawn_of s = to_le_bytes w64 (next_count s.calls) ++ to_le_bytes w64 s.number
