-- What making an object left of its slot, before it is brought to the gate.
use Rattle.std.specs.Prelude.{Err, [], List, Ok, Result, ℕ, ◌≡◌}
use Rattle.serial_calls.specs.ObjectMaking.{IsMadeOrClear}
use Rattle.serial_calls.specs.Seating.{IsVacant}
use Rattle.serial_calls.specs.CreateFailure.{reply_unmade}
use Rattle.serial_calls.specs.declared.create_failure.CreateFailure.{CreateFailure}
use Rattle.serial_calls.specs.declared.create_failure.CreateFailure.TheVariants.{Failed, Spent}
use Rattle.node_image.specs.declared.node.RootRef.{RootRef}
use Rattle.serial_calls.specs.SlotValues.{SlotValue}
use Rattle.serial_calls.specs.DeviceCounts.{told_of}
use Rattle.serial_calls.specs.Stores.{Store}
use Rattle.tee_types.specs.declared.reply.Cause.TheVariants.{Fault}
use Rattle.tee_types.specs.declared.reply.Device.TheVariants.{Entropy, File}
use Rattle.shared_calls.specs.SharedCounts.{CarriesDraws}

-- where there is no object, no other device is accused than that file and the session's entropy
abbrev pub AccusesAtMost : (file : ℕ) → Result RootRef CreateFailure → Type 0
AccusesAtMost file (Ok root) = Unit {0}
AccusesAtMost file (Err (Failed (Fault (File n) count))) = n ≡ file
AccusesAtMost file (Err (Failed (Fault Entropy count))) = Unit {0}
AccusesAtMost file (Err (Failed cause)) = ⊥
AccusesAtMost file (Err Spent) = Unit {0}

-- The slot has the object, settled and not committed; or it is clear, and it is known why. The object can be let go.
pub record HasMade (store : Store) (slot : SlotValue) (app attributes bytes : List ℕ) (made : Result RootRef CreateFailure) : Type 0 where
  pub makes : IsMadeOrClear store slot app attributes bytes made
  pub vacant : IsVacant store slot
  pub accuses : AccusesAtMost slot.number made

-- the counts that the reply carries for the file of that number, where no object was made
abbrev pub told_made : (file : ℕ) → Result RootRef CreateFailure → List ℕ
told_made file (Ok root) = []
told_made file (Err why) = told_of (File file) (reply_unmade why)

-- that reply carries the count of the session's entropy, if it accuses that
abbrev pub CarriesMade : (first last : ℕ) → Result RootRef CreateFailure → Type 0
CarriesMade first last (Ok root) = Unit {0}
CarriesMade first last (Err why) = CarriesDraws first last (reply_unmade why)
