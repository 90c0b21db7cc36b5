-- Where the shape of the map comes from.
use Rattle.std.specs.Prelude.{List, Option, Some}
use Rattle.std.specs.Map.{keys_of}
use Rattle.std.specs.List.Sorted.{IsStrictlySortedBy}
use Rattle.store_model.specs.Name.{name_cmp}
use Rattle.store_model.specs.Doubt.{Doubt}
use Rattle.store_model.specs.ReplayState.{replay_landed}
use Rattle.dir_records.specs.declared.entry.DirEntry.{DirEntry}
use Rattle.core_laws.specs.EntryLists.{AreDistinct}
use Rattle.core_laws.specs.Records.{HistoryRecord}
use Rattle.core_laws.specs.Directory.{given_version}
use Rattle.core_laws.specs.Settling.{as_landed}
use Rattle.core_laws.specs.Listed.{AreListed}
use Rattle.core_laws.specs.TamperScenarios.{TamperScenario}
use Rattle.core_laws.specs.Listings.{HaveListedVersions}
use Rattle.core_laws.specs.Mapped.{IsMapped, IsMappedLanded, landed_version}
use Rattle.core_laws.specs.Stores.{Store, entries_at, replay_at}
use Rattle.call_rules.specs.Shapes.{HasShape}

-- Where the map is in step with the history, and the directory lists the history's entries, each with its version, the map has the
-- directory's names and sizes. That is so whatever the objects' files are.
abbrev pub MappedEntriesHaveShape : Type 0
MappedEntriesHaveShape =
    (store : Store) (scenario : TamperScenario) (records : List HistoryRecord) (listed : List (Option DirEntry)) → IsMapped store scenario records
    → AreListed listed (entries_at store records).now → HaveListedVersions listed (given_version store.mounted records) → AreDistinct listed
    → IsStrictlySortedBy name_cmp (keys_of (replay_at store scenario records).state.objects)
    → HasShape listed (replay_at store scenario records).state.objects

-- So it is once the commit in doubt landed, beside the directory with its change.
abbrev pub LandedEntriesHaveShape : Type 0
LandedEntriesHaveShape =
    (store : Store) (scenario : TamperScenario) (records : List HistoryRecord) (doubt : Doubt) (listed : List (Option DirEntry))
    → IsMappedLanded store scenario records doubt → AreListed listed (as_landed (entries_at store records)).now
    → HaveListedVersions listed (landed_version store.mounted records) → AreDistinct listed
    → IsStrictlySortedBy name_cmp (keys_of (replay_landed (replay_at store scenario records) (Some doubt)).state.objects)
    → HasShape listed (replay_landed (replay_at store scenario records) (Some doubt)).state.objects
