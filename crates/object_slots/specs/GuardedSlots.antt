-- What holds of a slot while its lock is free.
use Rattle.std.specs.Prelude.{◌≡◌, ℕ, true, false, length, Option, Some, None, IsTrue}
use Rattle.disk_model.specs.State.{FileState}
use Rattle.hmac_keys.specs.declared.Keys.{Keys}
use Rattle.history_seats.specs.Numbers.{is_in}
use Rattle.history_seats.specs.Records.{Version, concerns_object}
use Rattle.history_seats.specs.Settling.{IsOpenDoubt, calm}
use Rattle.history_seats.specs.Views.{Sight, SlotView}
use Rattle.core_laws.specs.SlotParts.{Knows, SlotHolds}
use Rattle.core_laws.specs.TamperScenarios.{TamperScenario}
use Rattle.core_laws.specs.Decodings.{IsReal}
use Rattle.core_laws.specs.Masked.{StandsMasked, told_taints}
use Rattle.core_laws.specs.Stores.{Store}
use Rattle.core_laws.specs.Answered.{AreOwnLegal}
use Rattle.object_slots.specs.SlotCalls.{part}
use Rattle.object_slots.specs.SlotValues.{Holding, SlotValue, with_stage, without_stage}
use Rattle.object_slots.specs.SlotObjects.{IsOfVersion}
use Rattle.object_slots.specs.KnownFor.{KnowsItsOwn, own_version}

-- The file of that number and its seat are of the store, whatever the slot holds beside the file.
pub record IsSlotOf (store : Store) (number : ℕ) (file : FileState) (seat : Sight SlotView) : Type 0 where
  pub table : seat.table ≡ store.table
  pub mounted : seat.knows.mounted ≡ store.mounted
  pub own : seat.knows.file ≡ number
  -- each version that the view knows is real, stands in the file while that is honest, and is of the view's generation
  pub holds : (stage : Option ℕ) → SlotHolds store.keys (part file seat.knows stage)
  pub real : (v : Version) → Knows seat.knows v → IsReal store.keys v
  pub single : KnowsItsOwn seat.knows
  -- the file tells the masks that the store has for it, and with these over it each version that the view knows stands in it
  pub told : told_taints file ≡ store.taints number
  pub masked : (v : Version) → Knows seat.knows v → StandsMasked store.keys file v
  -- while the file is honest, each of its events is legal under each tamper scenario in which it is honest
  pub legal : IsTrue file.honest → (scenario : TamperScenario) → is_in number scenario.tampered ≡ false → AreOwnLegal store scenario number seat.knows.seen

-- No commit of the slot's object is in doubt: what it holds is of the version that its view gives.
pub record IsSettled (keys : Keys) (file : FileState) (view : SlotView) (holds : Holding) : Type 0 where
  pub version : Option Version
  pub gives : own_version view ≡ calm version
  pub holding : IsOfVersion keys file holds version

-- The commit of the event at that place is in doubt. What the slot holds is of the committed version, and, with its stage adopted, of the
-- one in doubt.
pub record IsInDoubt (keys : Keys) (file : FileState) (view : SlotView) (holds : Holding) (place : ℕ) : Type 0 where
  pub committed : Option Version
  pub doubted : Option Version
  pub gives : own_version view ≡ record { now = committed; if_landed = Some doubted }
  pub commit : ℕ
  pub doubt : IsOpenDoubt commit view.decided view.seen
  pub at : length doubt.front ≡ place
  pub named : concerns_object view.file view.generation doubt.doubted ≡ true
  pub before : IsOfVersion keys file (without_stage holds) committed
  pub after : IsOfVersion keys file (with_stage holds) doubted

abbrev pub IsContentOf : Keys → FileState → SlotView → Holding → (doubt : Option ℕ) → Type 0
IsContentOf keys file view holds None = IsSettled keys file view holds
IsContentOf keys file view holds (Some place) = IsInDoubt keys file view holds place

-- The slot is of the store, its seat is not lent, and it holds what its view says. So a slot with a stage, or with an object that was made,
-- is in doubt.
pub record SlotInvariant (store : Store) (slot : SlotValue) : Type 0 where
  pub seat : Sight SlotView
  pub is : slot.seat ≡ Some seat
  pub own : IsSlotOf store slot.number slot.file seat
  pub content : IsContentOf store.keys slot.file seat.knows slot.holds slot.doubt
