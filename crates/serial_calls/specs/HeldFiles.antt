-- The files that sessions hold.
use Rattle.std.specs.Prelude.{Some, ℕ, ◌≡◌}
use Rattle.call_steps.specs.Gates.{GateValue, file_in_doubt}
use Rattle.call_steps.specs.Holds.{file_held}

-- a session holds no file but the one that the commit in doubt puts
abbrev pub HoldsForDoubt : {F R : Type 0} → GateValue F R → Type 0
HoldsForDoubt gate = (session file : ℕ) → file_held gate.holds session ≡ Some file → file_in_doubt gate.doubt ≡ Some file

-- where that held before, it holds behind
abbrev pub KeepsHolds : {F R : Type 0} → (old new : GateValue F R) → Type 0
KeepsHolds old new = HoldsForDoubt old → HoldsForDoubt new
