-- The store that an opening is, under the keys of its device.
use Rattle.std.specs.Prelude.{◌≡◌}
use Rattle.disk_model.specs.State.{FileState}
use Rattle.hmac_keys.specs.declared.Keys.{Keys}
use Rattle.crash_core.specs.Opening.{opening_map}
use Rattle.history_seats.specs.Mounts.{Mounted}
use Rattle.core_laws.specs.Masked.{told_taints}
use Rattle.core_laws.specs.Stores.{Store}
use Rattle.object_calls.specs.MountedEntries.{mounted_entries}
use Rattle.object_calls.specs.Opening.{IsKeyed, OpeningValue, bench_files, entries_in}

-- the mount: its sessions' applications, and its entries with the versions that the files hold
abbrev pub mount_in : {F R : Type 0} → Keys → (F → FileState) → OpeningValue F R → Mounted
mount_in keys state o = record { applications = o.applications; entries = mounted_entries keys (bench_files state o) (entries_in o) }

abbrev pub store_in : {F R : Type 0} → Keys → (F → FileState) → OpeningValue F R → Store
store_in keys state o = record {
  table = o.table;
  keys = keys;
  mounted = mount_in keys state o;
  objects = opening_map keys (bench_files state o) (entries_in o);
  counter = o.gate.counter;
  taints = λ file. told_taints (bench_files state o file);
}

-- The store is that one, under the keys that the opening's keys come from.
pub record IsStoreOf {F R : Type 0} (state : F → FileState) (store : Store) (o : OpeningValue F R) : Type 0 where
  pub keyed : IsKeyed store.keys o
  pub is : store ≡ store_in store.keys state o
