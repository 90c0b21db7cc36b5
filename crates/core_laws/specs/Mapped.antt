-- The map of objects is in step with the directory and with what stands for the versions: as it stands, and as it is once the commit in
-- doubt landed.
use Rattle.std.specs.Prelude.{◌≡◌, ℕ, List, Option, Some, None, if◌then◌else◌, option_map, true}
use Rattle.std.specs.Ordering.{is_eq}
use Rattle.hmac_keys.specs.declared.Keys.{Keys}
use Rattle.store_model.specs.declared.name.ObjectName.{ObjectName}
use Rattle.store_model.specs.Name.{name_cmp}
use Rattle.store_model.specs.Object.{Object, object_at}
use Rattle.store_model.specs.Doubt.{Doubt}
use Rattle.store_model.specs.ReplayState.{ReplayState, replay_landed}
use Rattle.history_seats.specs.Records.{HistoryRecord, Version}
use Rattle.history_seats.specs.Mounts.{Entry, Mounted}
use Rattle.history_seats.specs.Settling.{IsOpenDoubt, as_landed}
use Rattle.history_seats.specs.Versions.{version_of}
use Rattle.history_seats.specs.Directory.{directory_of, given_version, has_entry}
use Rattle.core_laws.specs.TamperScenarios.{TamperScenario, object_under}
use Rattle.core_laws.specs.Stores.{Store, entries_at, entry_named, replay_at}

-- the version of each file's generation
abbrev pub Versions : Type 0
Versions = (file generation : ℕ) → Option Version

-- the versions that are given once the commit in doubt landed
abbrev pub landed_version : Mounted → List HistoryRecord → Versions
landed_version mounted records file generation =
    if has_entry file generation (as_landed (directory_of mounted records)).now
    then (as_landed (version_of file generation mounted records)).now
    else None

-- the object of an entry: what stands for the version of its file's generation
abbrev pub object_by : Keys → TamperScenario → Versions → Option Entry → Option Object
object_by keys scenario versions None = None
object_by keys scenario versions (Some e) = option_map (object_under keys scenario e.file e.generation) (versions e.file e.generation)

-- Each name has the object and the file of its entry, and no other name has any.
pub record IsInStep (keys : Keys) (scenario : TamperScenario) (versions : Versions) (entries : List Entry) (s : ReplayState) : Type 0 where
  pub objects : (name : ObjectName) → object_at s.state.objects name ≡ object_by keys scenario versions (entry_named name entries)
  pub files : (name : ObjectName) → s.files name ≡ option_map (λ e. e.file) (entry_named name entries)

-- so after these records
abbrev pub IsMapped : Store → TamperScenario → List HistoryRecord → Type 0
IsMapped store scenario records =
    IsInStep store.keys scenario (given_version store.mounted records) (entries_at store records).now (replay_at store scenario records)

-- and so once that doubt landed
abbrev pub IsMappedLanded : Store → TamperScenario → List HistoryRecord → Doubt → Type 0
IsMappedLanded store scenario records doubt =
    IsInStep store.keys scenario (landed_version store.mounted records) (as_landed (entries_at store records)).now
    (replay_landed (replay_at store scenario records) (Some doubt))

-- Both readings: as the map stands, and, while a doubt is open that stands at place z or later, as it is once that landed.
pub record IsMappedBoth (store : Store) (scenario : TamperScenario) (z : ℕ) (records : List HistoryRecord) : Type 0 where
  pub now : IsMapped store scenario records
  pub landed : (doubt : Doubt) → (replay_at store scenario records).doubt ≡ Some doubt → IsOpenDoubt doubt.commit z records
      → IsMappedLanded store scenario records doubt

-- entries of one file have one name
abbrev pub AreApart : List Entry → Type 0
AreApart entries =
    (a b : ObjectName) (e f : Entry) → entry_named a entries ≡ Some e → entry_named b entries ≡ Some f → e.file ≡ f.file
    → is_eq (name_cmp a b) ≡ true
