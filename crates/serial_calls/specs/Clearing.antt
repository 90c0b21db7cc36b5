-- The slot of a file that no entry names, once it is clear.
use Rattle.std.specs.Prelude.{None, Option, Some, ℕ, ◌≡◌}
use Rattle.call_steps.specs.GuardedSlots.{SlotInvariant}
use Rattle.call_steps.specs.NewObjects.{KnowsNothing}
use Rattle.call_steps.specs.SlotValues.{Holding, IsFree, SlotValue, without_stage}
use Rattle.core_laws.specs.Stores.{Store}

-- what a slot holds once its doubt has ended, whatever became of the commit
abbrev pub undoubted : (doubt : Option ℕ) → Holding → Holding
undoubted None holds = holds
undoubted (Some place) holds = without_stage holds

-- The slot may stand behind its lock, holds nothing, has no commit in doubt, and its seat knows no version of the file. Nothing is said of the
-- gate, so this stays while others call the gate.
pub record IsClearSlot (store : Store) (slot : SlotValue) : Type 0 where
  pub guarded : SlotInvariant store slot
  pub vacant : IsFree slot.holds
  pub settled : slot.doubt ≡ None
  pub nothing : KnowsNothing slot
