-- What staging a change of an object's data left of its slot, before it is brought to the gate; and what is left where no commit can follow.
use Rattle.std.specs.Prelude.{[], List, None, ℕ, ◌≡◌}
use Rattle.disk_model.specs.Calls.{Rests}
use Rattle.disk_model.specs.State.{FileState}
use Rattle.serial_calls.specs.CallerSessions.{CallerSession}
use Rattle.serial_calls.specs.declared.stage_result.Staged.{Staged}
use Rattle.serial_calls.specs.declared.stage_result.Staged.TheVariants.{Root, Unstaged}
use Rattle.serial_calls.specs.ChangeStaging.{DataCall, StagesChange}
use Rattle.history_seats.specs.Records.{Version}
use Rattle.serial_calls.specs.GuardedSlots.{SlotInvariant}
use Rattle.serial_calls.specs.GuardedReads.{GivesVersion}
use Rattle.serial_calls.specs.SlotValues.{SlotValue, without_stage}
use Rattle.serial_calls.specs.DeviceCounts.{told_of}
use Rattle.serial_calls.specs.Stores.{Store}
use Rattle.tee_types.specs.declared.reply.Device.TheVariants.{File}
use Rattle.shared_calls.specs.SharedCounts.{CarriesDraws}

-- The slot gives a version, and the change of its object is staged, or the reply says why not. No commit of it is in doubt, and without its
-- stage it may stand behind its lock.
pub record HasStaged (store : Store) (slot : SlotValue) (asked : DataCall) (staged : Staged) : Type 0 where
  pub version : Version
  pub gives : GivesVersion slot version
  pub settled : slot.doubt ≡ None
  pub base : SlotInvariant store (record slot { holds = without_stage slot.holds })
  pub stages : StagesChange store slot version asked staged

-- the counts that the reply carries for the file of that number, where nothing was staged
abbrev pub told_staged : (file : ℕ) → Staged → List ℕ
told_staged file (Root root) = []
told_staged file (Unstaged reply) = told_of (File file) reply

-- that reply carries the count of the session's entropy, if it accuses that
abbrev pub CarriesStaged : (first last : ℕ) → Staged → Type 0
CarriesStaged first last (Root root) = Unit {0}
CarriesStaged first last (Unstaged reply) = CarriesDraws first last reply

-- The slot's file was only read, and the session drew nothing.
pub record OnlyReads {E : Type 0} (from to : FileState) (was now : CallerSession E) : Type 0 where
  pub file : Rests from to
  pub entropy : now.entropy ≡ was.entropy
