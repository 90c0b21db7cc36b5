-- What is known of the devices of a bench.
use Rattle.std.specs.Prelude.{◌≡◌, ◌≢◌, ◌≤◌, ◌⊎◌, ℕ}
use Rattle.disk_model.specs.State.{FileState, no_file}
use Rattle.htree_file.specs.Answers.{FilePassed}
use Rattle.tee_types.specs.Limits.{directory_file, file_count}
use Rattle.rpmb_card.specs.Port.{PortState}
use Rattle.store_commit.specs.declared.fault.MountFault.{MountFault}
use Rattle.store_commit.specs.declared.fault.MountFault.TheVariants.{NoMemory}
use Rattle.object_calls.specs.declared.bench.Bench.{Bench}
use Rattle.object_calls.specs.OpeningFiles.{files_of}
use Rattle.object_calls.specs.Opening.{OpeningValue, bench_files}
use Rattle.object_calls.specs.Syncing.{IsOnlySynced}

-- its files by their numbers, and the port to the card
pub record BenchState : Type 0 where
  pub files : ℕ → FileState
  pub card : PortState

-- there is no file past the last
abbrev pub EndAtLast : (ℕ → FileState) → Type 0
EndAtLast files = (file : ℕ) → file_count ≤ file → files file ≡ no_file

abbrev pub IsWhole : BenchState → Type 0
IsWhole bench = EndAtLast bench.files

abbrev pub bench_state : {F R : Type 0} → (F → FileState) → (R → PortState) → Bench F R → BenchState
bench_state of_file of_port bench = record { files = files_of of_file bench.files.items; card = of_port bench.card }

-- the devices of a store that is mounted
abbrev pub opening_state : {F R : Type 0} → (F → FileState) → (R → PortState) → OpeningValue F R → BenchState
opening_state of_file of_port o = record { files = bench_files of_file o; card = of_port o.gate.host.port }

-- In no call of a file did memory run out.
abbrev pub HadMemory : (old new : BenchState) → Type 0
HadMemory old new = (file : ℕ) → (new.files file).starved ≡ (old.files file).starved

-- In a call of a file it did.
abbrev pub IsStarved : (old new : BenchState) → Type 0
IsStarved old new = HadMemory old new → ⊥

-- What is told where a fault was answered: that fault, if in no call of a file memory ran out; else want of memory.
abbrev pub TellsFault : (old new : BenchState) → (answered told : MountFault) → Type 0
TellsFault old new answered told = ((told ≡ answered) × HadMemory old new) ⊎ ((told ≡ NoMemory) × IsStarved old new)

-- the files of objects are as they were
abbrev pub KeepsObjectFiles : (old new : BenchState) → Type 0
KeepsObjectFiles old new = (file : ℕ) → file ≢ directory_file → new.files file ≡ old.files file

-- No device has other contents: nothing was asked of the files but reads and syncs, and the card was not written.
pub record KeepsDevices (old new : BenchState) : Type 0 where
  pub files : (file : ℕ) → IsOnlySynced (old.files file) (new.files file)
  pub card : new.card.card ≡ old.card.card

-- No call of a device failed.
pub record HasPassed (old new : BenchState) : Type 0 where
  pub files : (file : ℕ) → FilePassed (old.files file) (new.files file)
  pub card : new.card.faults ≡ old.card.faults
