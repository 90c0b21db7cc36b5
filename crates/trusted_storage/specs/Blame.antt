-- Which devices the replies of a phase accuse, and by which numbers.
use Rattle.std.specs.Prelude.{◌≡◌, ◌<◌, ℕ, List, [], length}
use Rattle.hmac_keys.specs.declared.Keys.{Keys}
use Rattle.hmac_keys.specs.KeyTable.{rpmb_key}
use Rattle.object_calls.specs.OpeningArms.{IsOnBench}
use Rattle.run_acts.specs.Closing.{faults_on}
use Rattle.shared_store.specs.Cards.{TellsCard}
use Rattle.shared_store.specs.DeviceCounts.{Rise, counts_of, draws_of}
use Rattle.store_model.specs.declared.event.Event.{Event}
use Rattle.tee_types.specs.declared.reply.Device.{Device}
use Rattle.trusted_storage.specs.Devices.{BenchState}

-- A reply that a device is not available carries the number of one of its failed calls. `Reliable` says that no generator of a session ever fails.
pub record AccuseRightly (Reliable : Type 0) (keys : Keys) (applications : List (List ℕ)) (before behind : BenchState) (events : List Event) : Type 0 where
  -- the directory's file, a file of an object, the card: each number is of a fault that the device counted in this phase, and above the one before
  -- it, until the count stands still at its last value
  pub devices : (device : Device) → IsOnBench device → Rise (faults_on before device) (faults_on behind device) (counts_of device events)
  -- so is each number of the generator of a session, and one that never fails is not accused
  pub drawn : (session : ℕ) → session < length applications → (last : ℕ) × Rise 0 last (draws_of session events)
  pub undrawn : Reliable → (session : ℕ) → session < length applications → draws_of session events ≡ []
  -- over a card with our key no reply blames a frame or a result of the card, and a commit in doubt cost it two failed calls
  pub card : TellsCard (rpmb_key keys.huk) before.card events
