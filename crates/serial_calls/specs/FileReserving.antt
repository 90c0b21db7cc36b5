-- The file of a new object, while the session holds it.
use Rattle.std.specs.Prelude.{List, None, Option, Some, slice_set, ℕ, ◌<◌, ◌≡◌}
use Rattle.crash_core.specs.EntryLists.{IsUnnamed}
use Rattle.call_steps.specs.GuardedGates.{GuardedGateValue}
use Rattle.call_steps.specs.Gates.{GateValue}
use Rattle.call_steps.specs.Holds.{file_held}
use Rattle.call_steps.specs.declared.DoubtedChange.{DoubtedChange}
use Rattle.tee_types.specs.Limits.{IsObjectFile}

-- The session holds that object's file, which no entry names.
pub record IsReserved {F R : Type 0} (gate : GateValue F R) (session file : ℕ) : Type 0 where
  pub within : session < 16
  pub held : file_held gate.holds session ≡ Some file
  pub unnamed : IsUnnamed gate.dir.dir.entries file
  pub numbered : IsObjectFile file

-- what is held once the session holds nothing
abbrev pub released : (session : ℕ) → List (Option ℕ) → List (Option ℕ)
released session holds = slice_set holds session None

-- the session's hold ends, unless a commit is in doubt
abbrev pub holds_left : (session : ℕ) → Option DoubtedChange → List (Option ℕ) → List (Option ℕ)
holds_left session None holds = released session holds
holds_left session (Some d) holds = holds

-- the gate once the file is given back so
abbrev pub given_back : {F R : Type 0} → (session : ℕ) → GuardedGateValue F R → GuardedGateValue F R
given_back session g = record g { gate = record g.gate { holds = holds_left session g.gate.doubt g.gate.holds } }
