-- The steps of a file in memory, on what is known of a file.
use Rattle.std.specs.Prelude.{◌≡◌, ◌⊎◌, ℕ, ◌+◌, ◌-◌, ◌^◌, List, [], ◌∷◌, ◌++◌, length, min, max, true, Contains, IsSomeAnd, ◌<◌, ◌≤◌}
use Rattle.disk_model.specs.Faults.{next_count}
use Rattle.disk_model.specs.Bytes.{after_write, after_resize}
use Rattle.disk_model.specs.Arms.{Arms, count_call, NamesNext, StopsNext}
use Rattle.disk_model.specs.State.{FileState, no_file}
use Rattle.disk_model.specs.Controls.{struck}
use Rattle.mem_files.specs.Held.{change_of}

-- an empty file without arms
abbrev pub fresh : FileState
fresh = record no_file { tells_arms = true }

-- the state as a call begins: the call is counted, and its masks struck
abbrev pub begun : FileState → FileState
begun s = record s {
  settled = (struck s).settled;
  reads = (struck s).reads;
  honest = (struck s).honest;
  arms = count_call s.arms;
}

-- the present call, which was counted, is one that is to fail
abbrev pub IsNamed : Arms → Type 0
IsNamed arms = IsSomeAnd arms.stop_after (λ calls. calls < arms.calls) ⊎ Contains arms.failing arms.calls

-- the state after a write; between the old end and the place of the write zeros were written too
abbrev pub wrote : FileState → ℕ → List ℕ → FileState
wrote s at bytes = record s {
  reads = after_write s.reads at bytes;
  trail = s.trail ++ change_of s.pending_from (min at (length s.reads)) (at + length bytes) ∷ [];
  written = min (s.written + length bytes) (2 ^ 64 - 1);
}

-- the state after the length was set
abbrev pub resized : FileState → ℕ → FileState
resized s size = record s {
  reads = after_resize s.reads size;
  trail = s.trail ++ change_of s.pending_from (min size (length s.reads)) (max size (length s.reads)) ∷ [];
}

-- the state after a sync, which is an entry without a place
abbrev pub synced : FileState → FileState
synced s = record s {
  settled = s.reads;
  trail = s.trail ++ change_of s.pending_from 0 0 ∷ [];
  pending_from = length s.trail + 1;
}

-- A call failed: it was set to fail, or memory ran out. Nothing but the counts changed since it began.
pub record FailsBegun (old new : FileState) (count : ℕ) : Type 0 where
  pub same : new ≡ record (begun old) { faults = next_count old.faults; starved = new.starved }
  pub carried : count ≡ new.faults
  pub faults : old.faults ≤ new.faults
  pub starved : old.starved ≤ new.starved
  pub cause : (NamesNext old.arms × (new.starved ≡ old.starved)) ⊎ ((NamesNext old.arms → ⊥) × (new.starved ≡ next_count old.starved))

-- The device stopped within a write: it may be there, or nothing of it.
pub record StopsWithin (old new : FileState) (at : ℕ) (bytes : List ℕ) (count : ℕ) : Type 0 where
  pub left : FileState
  pub either : (left ≡ wrote (begun old) at bytes) ⊎ (left ≡ begun old)
  pub same : new ≡ record left { faults = next_count left.faults }
  pub carried : count ≡ new.faults
  pub faults : left.faults ≤ new.faults
  pub written : old.written ≤ left.written
  pub stops : StopsNext old.arms
