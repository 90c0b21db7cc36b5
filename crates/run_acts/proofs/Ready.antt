-- A mounted store that is ready is the store that was mounted, under the same keys and with the same objects.
use Rattle.std.proofs.Common.{◌≡◌, ◌∙◌, ℕ, List, Option, refl, ap}
use Rattle.disk_model.specs.State.{FileState}
use Rattle.hmac_keys.specs.declared.Keys.{Keys}
use Rattle.rpmb_card.specs.Port.{PortState}
use Rattle.dir_records.specs.declared.entry.DirEntry.{DirEntry}
use Rattle.app_quota.specs.declared.quotas.Quota.{Quota}
use Rattle.store_model.specs.declared.event.Event.{Event}
use Rattle.store_model.specs.Object.{ObjectMap}
use Rattle.crash_core.specs.Opening.{opening_map}
use Rattle.script_text.specs.declared.script.Arm.{Arm}
use Rattle.script_text.specs.declared.script.Mode.{Mode}
use Rattle.script_text.specs.declared.script.Step.{Step}
use Rattle.object_calls.specs.OpenedStores.{store_in}
use Rattle.object_calls.specs.Opening.{IsKeyed, OpeningValue, bench_files, entries_in}
use Rattle.run_acts.specs.Benches.{BenchState, opening_state}
use Rattle.run_acts.specs.MountedDevices.{objects_in}
use Rattle.run_acts.specs.PhaseArms.{IsReady}
use Rattle.run_acts.specs.Phases.{RunsPhase, ServesOpened}
use Rattle.run_acts.specs.QuotaClosing.{ClosesWithin}
use Rattle.run_acts.specs.declared.refused_call.RefusedCall.{RefusedCall}
use Rattle.run_acts.proofs.Arms.{armed-map, arms_read}
use Rattle.run_acts.proofs.Closings.{closes_within_where}

module _ {F R : Type 0} (of_file : F → FileState) (of_port : R → PortState) (applications : List (List ℕ)) (arms : List Arm) (opened armed : OpeningValue F R)
    (ready : IsReady of_file of_port applications arms opened armed) where
  pub ready-applications : armed.applications ≡ applications
  ready-applications = ap (λ (o : OpeningValue F R). o.applications) ready.others

  pub ready-keyed : (keys : Keys) → IsKeyed keys opened → IsKeyed keys armed
  ready-keyed keys keyed = record {
    storage = ap (λ (o : OpeningValue F R). o.storage_key) ready.others ∙ keyed.storage;
    card = ap (λ (o : OpeningValue F R). o.gate.host.key) ready.others ∙ keyed.card;
  }

  ready-entries : entries_in armed ≡ entries_in opened
  ready-entries = ap (λ (o : OpeningValue F R). entries_in o) ready.others

  pub ready-map : (keys : Keys) → objects_in of_file of_port keys armed ≡ objects_in of_file of_port keys opened
  ready-map keys =
      ap (λ (entries : List (Option DirEntry)). opening_map keys (bench_files of_file armed) entries) ready-entries
      ∙ armed-map keys (bench_files of_file opened) (bench_files of_file armed) (entries_in opened)
      (arms_read arms (opening_state of_file of_port opened) (opening_state of_file of_port armed) ready.arms_are)

  pub serves_opened : (Reliable : Type 0) (keys : Keys) (quotas : List Quota) (mode : Mode) (calls : List Step) (closed : BenchState) (events : List Event) (refused : List RefusedCall) → IsKeyed keys opened
      → ClosesWithin Reliable (store_in keys of_file armed) quotas (opening_state of_file of_port armed) mode calls closed events refused
      → ServesOpened of_file of_port Reliable keys applications quotas arms mode calls opened closed events refused
  serves_opened Reliable keys quotas mode calls closed events refused keyed closes = record {
    armed = armed;
    ready = ready;
    store = store_in keys of_file armed;
    is_store = record { keyed = ready-keyed keys keyed; is = refl };
    keys_are = refl;
    opens = ready-map keys;
    closes = closes.closes;
    quotas_kept = closes.quotas_kept;
  }

-- where a generator that never fails leaves one that never does, so much is said of it
pub serves_where : {F R : Type 0} (of_file : F → FileState) (of_port : R → PortState) (Streams Generator : Type 0) (keys : Keys) (applications : List (List ℕ)) (quotas : List Quota) (arms : List Arm) (mode : Mode)
    (calls : List Step) (opened : OpeningValue F R) (closed : BenchState) (events : List Event) (refused : List RefusedCall) → (Generator → Streams)
    → ServesOpened of_file of_port Streams keys applications quotas arms mode calls opened closed events refused → ServesOpened of_file of_port Generator keys applications quotas arms mode calls opened closed events refused
serves_where of_file of_port Streams Generator keys applications quotas arms mode calls opened closed events refused never s =
    let within = closes_within_where Streams Generator s.store quotas (opening_state of_file of_port s.armed) mode calls closed events refused never (record { closes = s.closes; quotas_kept = s.quotas_kept }) in
    record {
      armed = s.armed;
      ready = s.ready;
      store = s.store;
      is_store = s.is_store;
      keys_are = s.keys_are;
      opens = s.opens;
      closes = within.closes;
      quotas_kept = within.quotas_kept;
    }

pub runs_where : {F R : Type 0} (of_file : F → FileState) (of_port : R → PortState) (Later First : Type 0) (keys : Keys) (applications : List (List ℕ)) (quotas : List Quota) (arms : List Arm) (mode : Mode)
    (calls : List Step) (old new : BenchState) (opening : ObjectMap) (events : List Event) (refused : List RefusedCall) → (First → Later)
    → RunsPhase of_file of_port Later keys applications quotas arms mode calls old new opening events refused → RunsPhase of_file of_port First keys applications quotas arms mode calls old new opening events refused
runs_where of_file of_port Later First keys applications quotas arms mode calls old new opening events refused lasts r = record {
  opened = r.opened;
  mounts = r.mounts;
  sound = r.sound;
  none = r.none;
  keeps = r.keeps;
  passed = r.passed;
  objects = r.objects;
  room = r.room;
  closed = r.closed;
  serves = serves_where of_file of_port Later First keys applications quotas arms mode calls r.opened r.closed events refused lasts r.serves;
  disarms = r.disarms;
  with_memory = r.with_memory;
  sound_left = r.sound_left;
  past = r.past;
}
