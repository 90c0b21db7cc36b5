-- How many calls of its file a directory's load makes.
use Rattle.std.specs.Prelude.{◌≡◌, ℕ, zero, suc, IsTrue}
use Rattle.disk_model.specs.Arms.{Arms, count_call}
use Rattle.disk_model.specs.State.{FileState}

-- so many calls more were counted
unfoldable pub calls_counted : (calls : ℕ) → Arms → Arms
calls_counted zero arms = arms
calls_counted (suc calls) arms = count_call (calls_counted calls arms)

-- each of so many blocks was read with one call
abbrev pub ReadsBlocks : (old new : FileState) → (blocks : ℕ) → Type 0
ReadsBlocks old new blocks = IsTrue old.tells_arms → new.arms ≡ calls_counted blocks old.arms
