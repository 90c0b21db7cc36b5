-- What a simulator's controls, and the arms that strike, do to what is known of a file.
use Rattle.std.specs.Prelude.{ℕ, ◌-◌, List, [], length, take, max, Bool, true, false, not, ◌==◌, ◌||◌, if◌then◌else◌, fold}
use Rattle.std.specs.List.{list_any}
use Rattle.disk_model.specs.Bytes.{after_mask}
use Rattle.disk_model.specs.Arms.{Taint, no_arms, arm_stop, arm_failure, arm_taint, next_taints}
use Rattle.disk_model.specs.State.{FileState}

-- these bytes are settled and read, and nothing is pending
abbrev pub settled_as : FileState → List ℕ → FileState
settled_as s bytes = record s { settled = bytes; reads = bytes; trail = []; pending_from = 0 }

-- the same, with the bytes named anew, so that the file is honest
abbrev pub renamed_as : FileState → List ℕ → FileState
renamed_as s bytes = record (settled_as s bytes) { honest = true }

-- what a mask strikes of a file
pub record Stored : Type 0 where
  pub settled : List ℕ
  pub reads : List ℕ
  pub honest : Bool

abbrev pub stored : FileState → Stored
stored s = record { settled = s.settled; reads = s.reads; honest = s.honest }

-- the mask changes a byte
abbrev pub is_struck : Stored → Taint → Bool
is_struck s taint =
    list_any (λ bits. not (bits == 0)) (take (max (length s.settled) (length s.reads) - taint.at) taint.mask)

-- the mask is laid over both the settled bytes and those that the file reads as; where that changes a byte, the file is no
-- longer honest
abbrev pub strike : Stored → Taint → Stored
strike s taint = (if is_struck s taint then record {
  settled = after_mask s.settled taint.at taint.mask;
  reads = after_mask s.reads taint.at taint.mask;
  honest = false;
} else s)

-- what the masks that are armed for the next call leave
abbrev pub struck : FileState → Stored
struck s = fold strike (stored s) (next_taints s.arms)

abbrev pub stop_armed : FileState → ℕ → FileState
stop_armed s calls = record s { arms = arm_stop s.arms calls; calm = false }

abbrev pub failure_armed : FileState → ℕ → FileState
failure_armed s call = record s { arms = arm_failure s.arms call; calm = false }

abbrev pub taint_armed : FileState → Taint → FileState
taint_armed s taint = record s { arms = arm_taint s.arms taint; steady = false }

-- a device that tells its arms is calm and steady without any
abbrev pub disarmed : FileState → FileState
disarmed s = record s { arms = no_arms; calm = s.tells_arms || s.calm; steady = s.tells_arms || s.steady }
