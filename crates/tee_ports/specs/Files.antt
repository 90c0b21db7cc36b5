-- What the calls of a file answer, beside what they do to its bytes.
use Rattle.std.specs.Prelude.{◌≡◌, ◌⊎◌, ℕ, ◌-◌, ◌^◌, ◌<◌, ◌++◌, List, length, take, drop, min, Result, Ok, Err, Bool, IsTrue}
use Rattle.tee_ports.specs.declared.failed.Failed.{Failed}
use Rattle.disk_model.specs.Faults.{Rose}
use Rattle.disk_model.specs.Arms.{count_call, NamesNext, StopsNext}
use Rattle.disk_model.specs.State.{FileState}
use Rattle.disk_model.specs.Controls.{Stored, struck}

-- A call that failed counted a fault, and its answer carries the count. A calm file counted it for want of memory, and
-- one that tells its arms did so or was set to fail this call.
pub record Fails (old new : FileState) (count : ℕ) : Type 0 where
  pub rose : Rose old.faults new.faults
  pub carried : count ≡ new.faults
  pub fits : new.faults < 2 ^ 64
  pub calm : IsTrue old.calm → Rose old.starved new.starved
  pub armed : IsTrue old.tells_arms → NamesNext old.arms ⊎ Rose old.starved new.starved

-- no fault was counted
pub record Passes (old new : FileState) : Type 0 where
  pub faults : new.faults ≡ old.faults
  pub starved : new.starved ≡ old.starved

-- each answer has its cause
abbrev pub HasCause : {A : Type 0} → FileState → FileState → Result A Failed → Type 0
HasCause old new (Ok answer) = Passes old new
HasCause old new (Err failure) = Fails old new failure.count

-- the settled bytes and those that the file reads as are these
pub record HasBytes (s : FileState) (bytes : Stored) : Type 0 where
  pub settled : s.settled ≡ bytes.settled
  pub reads : s.reads ≡ bytes.reads

-- A call of a file that tells its arms: the masks for this call struck first, and nothing else changes honesty; a call that
-- is set to fail does fail. It does not reach the device, unless the device stops at it: then it may leave what any failed
-- call may leave.
pub record ActsByArms (old new : FileState) (failed : Bool) : Type 0 where
  pub counted : new.arms ≡ count_call old.arms
  pub honest : new.honest ≡ (struck old).honest
  pub fails : NamesNext old.arms → IsTrue failed
  pub unreached : NamesNext old.arms → (StopsNext old.arms → ⊥) → (new.trail ≡ old.trail) × HasBytes new (struck old) × (new.written ≡ old.written)

-- A file that tells its arms, and changed none of its bytes but where masks struck.
pub record StaysByArms (old new : FileState) (failed : Bool) : Type 0 where
  pub acts : ActsByArms old new failed
  pub bytes : HasBytes new (struck old)

-- this many bytes were read, those that stand at the place
abbrev pub ReadsAt : List ℕ → ℕ → List ℕ → ℕ → List ℕ → Type 0
ReadsAt bytes at old count new =
    (count ≡ min (length old) (length bytes - at)) × (new ≡ take count (drop at bytes) ++ drop count old)
