-- Arms: which of the coming calls a device is set to fail, and before which a mask strikes it. Calls are counted from 1
-- since the last arming.
use Rattle.std.specs.Prelude.{◌≡◌, ◌⊎◌, ℕ, ◌+◌, ◌<◌, List, [], ◌∷◌, ◌++◌, Option, Some, None, IsSomeAnd, Contains, ◌==◌, filter}
use Rattle.disk_model.specs.Faults.{next_count}

-- before this call the mask is laid over the bytes from a place on
pub record Taint : Type 0 where
  pub call : ℕ
  pub at : ℕ
  pub mask : List ℕ

pub record Arms : Type 0 where
  pub calls : ℕ
  -- all calls past this number fail; the device stops at the first of them
  pub stop_after : Option ℕ
  -- these calls fail without reaching the device
  pub failing : List ℕ
  pub taints : List Taint

abbrev pub no_arms : Arms
no_arms = record { calls = 0; stop_after = None; failing = []; taints = [] }

abbrev pub arm_stop : Arms → ℕ → Arms
arm_stop arms calls = record arms { calls = 0; stop_after = Some calls }

abbrev pub arm_failure : Arms → ℕ → Arms
arm_failure arms call = record arms { calls = 0; failing = arms.failing ++ call ∷ [] }

abbrev pub arm_taint : Arms → Taint → Arms
arm_taint arms taint = record arms { calls = 0; taints = arms.taints ++ taint ∷ [] }

-- one more call
abbrev pub count_call : Arms → Arms
count_call arms = record arms { calls = next_count arms.calls }

-- what is armed stayed, and calls may have been counted
pub record KeepsArms (old new : Arms) : Type 0 where
  pub stop_after : new.stop_after ≡ old.stop_after
  pub failing : new.failing ≡ old.failing
  pub taints : new.taints ≡ old.taints

-- the next call is one that is to fail
abbrev pub NamesNext : Arms → Type 0
NamesNext arms =
    IsSomeAnd arms.stop_after (λ calls. calls < next_count arms.calls)
    ⊎ Contains arms.failing (next_count arms.calls)

-- the device stops at the next call, which is not one of those that are to fail without reaching it
abbrev pub StopsNext : Arms → Type 0
StopsNext arms =
    IsSomeAnd arms.stop_after (λ calls. calls + 1 ≡ next_count arms.calls)
    × (Contains arms.failing (next_count arms.calls) → ⊥)

-- no call is to fail
abbrev pub NamesNone : Arms → Type 0
NamesNone arms = (arms.stop_after ≡ None) × (arms.failing ≡ [])

-- the masks that strike before the next call, in the order in which they were armed
abbrev pub next_taints : Arms → List Taint
next_taints arms = filter (λ taint. taint.call == next_count arms.calls) arms.taints
