-- A store as it is shared: its devices, and what holds of its slots.
use Rattle.std.specs.Prelude.{◌≡◌, ◌≢◌, ◌<◌, ℕ, List, [], slice_index_or}
use Rattle.disk_model.specs.State.{FileState}
use Rattle.tee_types.specs.Limits.{directory_file}
use Rattle.rpmb_card.specs.Port.{PortState}
use Rattle.quota_store.specs.SlotValues.{SlotValue}
use Rattle.quota_store.specs.Devices.{Devices}
use Rattle.object_calls.specs.Opening.{OpeningValue, bench_files}
use Rattle.quota_store.specs.Kept.{KeepsSlot}
use Rattle.run_acts.specs.Benches.{BenchState}

-- the devices of a store that is mounted, with no generator
abbrev pub opening_devices : {F R : Type 0} → (F → FileState) → (R → PortState) → OpeningValue F R → Devices
opening_devices of_file of_port o = record { dir = of_file o.gate.dir.file; file = bench_files of_file o; card = of_port o.gate.host.port; draws = 0 }

-- These are the devices of the bench.
pub record IsBenchOf (devices : Devices) (bench : BenchState) : Type 0 where
  pub dir : bench.files directory_file ≡ devices.dir
  pub each : (file : ℕ) → file ≢ directory_file → bench.files file ≡ devices.file file
  pub card : bench.card ≡ devices.card

-- each of the first so many slots may stand behind its lock
abbrev pub AreKept : Devices → (count : ℕ) → List SlotValue → Type 0
AreKept before count slots = (i : ℕ) (d : SlotValue) → i < count → KeepsSlot before (slice_index_or slots i d) []
