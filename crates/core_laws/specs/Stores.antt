-- The store of one phase, and where the replay of its history stands under a tamper scenario.
use Rattle.std.specs.Prelude.{◌≡◌, ℕ, List, [], map, find, Option, Some, None, option_map}
use Rattle.std.specs.Ordering.{is_eq}
use Rattle.disk_model.specs.Arms.{Taint}
use Rattle.atomic_table.specs.Seated.{TableId}
use Rattle.hmac_keys.specs.declared.Keys.{Keys}
use Rattle.store_model.specs.declared.name.ObjectName.{ObjectName}
use Rattle.store_model.specs.Name.{name_cmp}
use Rattle.store_model.specs.Object.{Object, ObjectMap, object_at}
use Rattle.store_model.specs.Files.{FileMap}
use Rattle.store_model.specs.ReplayState.{PhaseOpening, ReplayState, replay}
use Rattle.store_model.specs.LegalHistory.{opening_with}
use Rattle.history_seats.specs.Records.{HistoryRecord}
use Rattle.history_seats.specs.Mounts.{Entry, Mounted, MountedEntry}
use Rattle.history_seats.specs.Settling.{Pending}
use Rattle.history_seats.specs.Directory.{directory_of}
use Rattle.history_seats.specs.Views.{no_mount}
use Rattle.core_laws.specs.TamperScenarios.{TamperScenario, object_under}

-- What one phase is fixed by: the table of its history, the device's keys, the mount, the objects that it opens with, the card's write
-- counter, and the masks that are armed on each file that tells its bytes and its arms.
pub record Store : Type 0 where
  pub table : TableId
  pub keys : Keys
  pub mounted : Mounted
  pub objects : ObjectMap
  pub counter : ℕ
  pub taints : (file : ℕ) → Option (List Taint)

-- no store
abbrev pub no_store : Store
no_store = record {
  table = record { words = 0; slots = 0; views_name = 0; atom = 0; block = 0; offset = 0; slot_names = [] };
  keys = record { huk = []; chip = [] };
  mounted = no_mount;
  objects = [];
  counter = 0;
  taints = λ file. None;
}

-- the entry of that name
abbrev pub entry_named : ObjectName → List Entry → Option Entry
entry_named name entries = find (λ e. is_eq (name_cmp name e.name)) entries

abbrev pub mounted_named : ObjectName → Mounted → Option MountedEntry
mounted_named name mounted = find (λ e. is_eq (name_cmp name e.entry.name)) mounted.entries

-- the file of each object at the mount
abbrev pub mounted_files : Mounted → FileMap
mounted_files mounted name = option_map (λ e. e.entry.file) (mounted_named name mounted)

abbrev pub phase_of : Store → PhaseOpening
phase_of store = record {
  objects = store.objects;
  files = mounted_files store.mounted;
  applications = store.mounted.applications;
  counter = store.counter;
}

-- what stands for an object of the mount: for the version that its entry names
abbrev pub object_for : Keys → TamperScenario → Option MountedEntry → Object → Object
object_for keys scenario None object = object
object_for keys scenario (Some e) object = object_under keys scenario e.entry.file e.entry.generation e.version

-- the objects that the phase opens with under a tamper scenario
abbrev pub objects_under : Store → TamperScenario → ObjectMap
objects_under store scenario = map (λ e. (e.0, object_for store.keys scenario (mounted_named e.0 store.mounted) e.1)) store.objects

abbrev pub start_under : Store → TamperScenario → ReplayState
start_under store scenario = opening_with (phase_of store) (objects_under store scenario)

-- where the replay of these records stands
abbrev pub replay_at : Store → TamperScenario → List HistoryRecord → ReplayState
replay_at store scenario records = replay (start_under store scenario) records

-- the directory after these records
abbrev pub entries_at : Store → List HistoryRecord → Pending (List Entry)
entries_at store records = directory_of store.mounted records

-- The objects that the phase opens with are those of the versions that the mount's entries name.
abbrev pub OpensMounted : Store → Type 0
OpensMounted store =
    (name : ObjectName) → object_at store.objects name ≡ option_map (λ e. e.version.object) (mounted_named name store.mounted)
