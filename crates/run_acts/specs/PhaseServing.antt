-- The devices of a store while it is served, as those of a bench.
use Rattle.std.specs.Prelude.{◌≡◌, ◌+◌, ◌<◌, ℕ, slice_index_or}
use Rattle.disk_model.specs.State.{FileState}
use Rattle.tee_types.specs.Limits.{directory_file, last_file, old_directory_file}
use Rattle.rpmb_card.specs.Port.{PortState}
use Rattle.quota_store.specs.SlotValues.{SlotValue}
use Rattle.object_calls.specs.Services.{ServiceValue}
use Rattle.run_acts.specs.Benches.{BenchState}

-- The directory's file is in its place, and that of an old one; each slot has the file of its number, and the gate has the port.
pub record HasDevices {F R : Type 0} (of_file : F → FileState) (of_port : R → PortState) (s : ServiceValue F R) (bench : BenchState) : Type 0 where
  pub dir : bench.files directory_file ≡ of_file s.gate.gate.dir.file
  pub spare : bench.files old_directory_file ≡ of_file s.spare
  pub each : (i : ℕ) (d : SlotValue) → i < last_file → bench.files (i + 1) ≡ (slice_index_or s.slots i d).file
  pub card : bench.card ≡ of_port s.gate.gate.host.port
