-- What a mount says of its bench, in the words of benches.
use Rattle.std.proofs.Common.{◌≢◌, ℕ, List, inl, inr, sym, subst}
use Rattle.std.proofs.lemmas.Bool.{cases_eq}
use Rattle.disk_model.specs.State.{FileState}
use Rattle.hmac_keys.specs.declared.Keys.{Keys}
use Rattle.tee_types.specs.Limits.{directory_file}
use Rattle.rpmb_card.specs.Port.{PortState}
use Rattle.tee_types.specs.declared.reply.Cause.TheVariants.{Fault, Frame as FrameCause, CardResult as ResultCause}
use Rattle.tee_types.specs.declared.reply.Device.TheVariants.{Dir, File, Card, Entropy}
use Rattle.store_commit.specs.declared.fault.MountFault.{MountFault}
use Rattle.store_commit.specs.declared.fault.MountFault.TheVariants.{NoStore, CardBlock, Directory, Frame, CardResult, Failed, Spent, NoMemory, OldFormat}
use Rattle.store_commit.specs.Mounts.{LeavesDevices}
use Rattle.object_calls.specs.OpeningFiles.{files_of}
use Rattle.object_calls.specs.MountRefusals.{BenchRefused, GateRefuses}
use Rattle.object_calls.specs.Syncing.{IsOnlySynced}
use Rattle.object_calls.proofs.Syncs.{only_none}
use Rattle.run_acts.specs.Benches.{BenchState, KeepsDevices}
use Rattle.run_acts.specs.DeviceLaws.{RefusedMountsKeep}
use Rattle.run_acts.proofs.CrashedLaws.{kept_devices_hold}
use Rattle.run_acts.specs.MountedDevices.{IsGateRefused, StopsMounting}

-- one file is the directory's, and each other is an object's
pub each_file : (P : ℕ → Type 0) → P directory_file → ((file : ℕ) → file ≢ directory_file → P file) → (file : ℕ) → P file
each_file P own others file = elim (cases_eq file directory_file) [
  | inl is ↦ subst P (sym is) own
  | inr other ↦ others file other
]

module _ {F : Type 0} (state : F → FileState) (keys : Keys) (old new : List F) (p0 p1 : PortState) (drew draws : ℕ) where
  abbrev was : BenchState
  was = record { files = files_of state old; card = p0 }

  abbrev now : BenchState
  now = record { files = files_of state new; card = p1 }

  gate_refused : (fault : MountFault) → GateRefuses state old new p0 p1 keys drew draws fault → IsGateRefused keys was now drew draws fault
  gate_refused fault g = record { refused = g.refused; differs = g.differs; same = g.same }

  pub stops_mounting : (fault : MountFault) → BenchRefused state old new p0 p1 keys drew draws fault → StopsMounting keys was now drew draws fault
  stops_mounting NoStore g = gate_refused NoStore g
  stops_mounting (CardBlock byte) g = gate_refused (CardBlock byte) g
  stops_mounting (Directory fault) g = gate_refused (Directory fault) g
  stops_mounting (Frame fault) g = gate_refused (Frame fault) g
  stops_mounting (CardResult value) g = gate_refused (CardResult value) g
  stops_mounting (Failed (Fault Dir count)) g = gate_refused (Failed (Fault Dir count)) g
  stops_mounting (Failed (Fault (File n) count)) stops = stops
  stops_mounting (Failed (Fault Card count)) g = gate_refused (Failed (Fault Card count)) g
  stops_mounting (Failed (Fault Entropy count)) g = gate_refused (Failed (Fault Entropy count)) g
  stops_mounting (Failed (FrameCause fault)) g = gate_refused (Failed (FrameCause fault)) g
  stops_mounting (Failed (ResultCause value)) g = gate_refused (Failed (ResultCause value)) g
  stops_mounting Spent g = gate_refused Spent g
  stops_mounting (OldFormat file) g = gate_refused (OldFormat file) g
  stops_mounting NoMemory g = gate_refused NoMemory g

-- the files of objects that a mount left were only synced
objects_kept : (keys : Keys) (old new : BenchState) (drew draws : ℕ) (fault : MountFault) → StopsMounting keys old new drew draws fault → (file : ℕ) → file ≢ directory_file → IsOnlySynced (old.files file) (new.files file)
objects_kept keys old new drew draws (Failed (Fault (File n) count)) stops file other = stops.each file other
objects_kept keys old new drew draws NoStore g file other = subst (IsOnlySynced (old.files file)) (sym (g.same file other)) (only_none (old.files file))
objects_kept keys old new drew draws (CardBlock byte) g file other = subst (IsOnlySynced (old.files file)) (sym (g.same file other)) (only_none (old.files file))
objects_kept keys old new drew draws (Directory fault) g file other = subst (IsOnlySynced (old.files file)) (sym (g.same file other)) (only_none (old.files file))
objects_kept keys old new drew draws (Frame fault) g file other = subst (IsOnlySynced (old.files file)) (sym (g.same file other)) (only_none (old.files file))
objects_kept keys old new drew draws (CardResult value) g file other = subst (IsOnlySynced (old.files file)) (sym (g.same file other)) (only_none (old.files file))
objects_kept keys old new drew draws (Failed (Fault Dir count)) g file other = subst (IsOnlySynced (old.files file)) (sym (g.same file other)) (only_none (old.files file))
objects_kept keys old new drew draws (Failed (Fault Card count)) g file other = subst (IsOnlySynced (old.files file)) (sym (g.same file other)) (only_none (old.files file))
objects_kept keys old new drew draws (Failed (Fault Entropy count)) g file other = subst (IsOnlySynced (old.files file)) (sym (g.same file other)) (only_none (old.files file))
objects_kept keys old new drew draws (Failed (FrameCause fault)) g file other = subst (IsOnlySynced (old.files file)) (sym (g.same file other)) (only_none (old.files file))
objects_kept keys old new drew draws (Failed (ResultCause value)) g file other = subst (IsOnlySynced (old.files file)) (sym (g.same file other)) (only_none (old.files file))
objects_kept keys old new drew draws Spent g file other = subst (IsOnlySynced (old.files file)) (sym (g.same file other)) (only_none (old.files file))
objects_kept keys old new drew draws (OldFormat found) g file other = subst (IsOnlySynced (old.files file)) (sym (g.same file other)) (only_none (old.files file))
objects_kept keys old new drew draws NoMemory g file other = subst (IsOnlySynced (old.files file)) (sym (g.same file other)) (only_none (old.files file))

dir_kept : (a b : FileState) (p0 p1 : PortState) → LeavesDevices a b p0 p1 → IsOnlySynced a b
dir_kept a b p0 p1 leaves = record { keeps = leaves.keeps; reads = leaves.reads; left = leaves.left }

pub refused_keeps : (keys : Keys) (old new : BenchState) (drew draws : ℕ) (fault : MountFault) → StopsMounting keys old new drew draws fault
    → LeavesDevices (old.files directory_file) (new.files directory_file) old.card new.card → KeepsDevices old new
refused_keeps keys old new drew draws fault stops leaves = record {
  files = each_file (λ file. IsOnlySynced (old.files file) (new.files file)) (dir_kept (old.files directory_file) (new.files directory_file) old.card new.card leaves) (objects_kept keys old new drew draws fault stops);
  card = leaves.card;
}

pub mounted_keeps : (old new : BenchState) → LeavesDevices (old.files directory_file) (new.files directory_file) old.card new.card → ((file : ℕ) → file ≢ directory_file → IsOnlySynced (old.files file) (new.files file)) → KeepsDevices old new
mounted_keeps old new leaves each = record {
  files = each_file (λ file. IsOnlySynced (old.files file) (new.files file)) (dir_kept (old.files directory_file) (new.files directory_file) old.card new.card leaves) each;
  card = leaves.card;
}

pub refused_mounts_keep : RefusedMountsKeep
refused_mounts_keep keys s old new drew draws fault holds refused honest =
    kept_devices_hold keys s old new holds (refused_keeps keys old new drew draws fault refused.refused refused.leaves) honest
