-- The map of objects in step with the directory and the versions, over one event.
use Rattle.std.specs.Prelude.{◌≡◌, ◌≤◌, ℕ, false, List, [], ◌∷◌, ◌++◌, Some, find}
use Rattle.std.specs.Ordering.{is_eq}
use Rattle.store_model.specs.declared.name.ObjectName.{ObjectName}
use Rattle.store_model.specs.declared.event.Mark.TheVariants.{Unchanged}
use Rattle.store_model.specs.Name.{name_cmp}
use Rattle.store_model.specs.Object.{object_at}
use Rattle.store_model.specs.Doubt.{Doubt}
use Rattle.history_seats.specs.Records.{HistoryRecord, Version}
use Rattle.history_seats.specs.Mounts.{Entry, MountedEntry}
use Rattle.history_seats.specs.Settling.{HasMark, IsOpenDoubt}
use Rattle.history_seats.specs.Versions.{is_entry_of}
use Rattle.history_seats.specs.Directory.{given_version}
use Rattle.history_seats.specs.Changes.{landing_of}
use Rattle.history_seats.specs.Tags.{HasRightTag}
use Rattle.core_laws.specs.TamperScenarios.{TamperScenario, object_under}
use Rattle.core_laws.specs.Stores.{OpensMounted, Store, entries_at, entry_named, replay_at}
use Rattle.core_laws.specs.Mapped.{IsMapped, IsMappedBoth}
use Rattle.core_laws.specs.Answered.{IsAnsweredAt}

-- no entry of the mount has the file and the generation of a later one
abbrev pub AreMountedApart : List MountedEntry → Type 0
AreMountedApart [] = Unit {0}
AreMountedApart (x ∷ entries) =
    ((name : ObjectName) (e : MountedEntry) → find (λ y. is_eq (name_cmp name y.entry.name)) entries ≡ Some e
    → is_entry_of e.entry.file e.entry.generation x.entry ≡ false)
    × AreMountedApart entries

-- A phase opens in step, under each tamper scenario.
abbrev pub OpeningsAreInStep : Type 0
OpeningsAreInStep = (store : Store) (scenario : TamperScenario) (z : ℕ) → OpensMounted store → AreMountedApart store.mounted.entries → IsMappedBoth store scenario z []

-- The object under a name is what stands for the version of its entry.
abbrev pub EntriesHaveObjects : Type 0
EntriesHaveObjects =
    (store : Store) (scenario : TamperScenario) (records : List HistoryRecord) (name : ObjectName) (entry : Entry) (version : Version) → IsMapped store scenario records
    → entry_named name (entries_at store records).now ≡ Some entry → given_version store.mounted records entry.file entry.generation ≡ Some version
    → object_at (replay_at store scenario records).state.objects name ≡ Some (object_under store.keys scenario entry.file entry.generation version)

-- An answered event with mark Unchanged keeps both readings.
abbrev pub UnchangedEventsKeepMaps : Type 0
UnchangedEventsKeepMaps =
    (store : Store) (scenario : TamperScenario) (z : ℕ) (records : List HistoryRecord) (r : HistoryRecord) → HasMark Unchanged r.event → HasRightTag store.mounted records r
    → IsAnsweredAt store scenario records r → IsMappedBoth store scenario z records → IsMappedBoth store scenario z (records ++ r ∷ [])

-- A landing brings what was the second reading.
abbrev pub LandingsKeepMaps : Type 0
LandingsKeepMaps =
    (store : Store) (scenario : TamperScenario) (z y : ℕ) (records : List HistoryRecord) (doubt : Doubt) → IsMappedBoth store scenario z records
    → (replay_at store scenario records).doubt ≡ Some doubt → IsOpenDoubt doubt.commit z records
    → IsMappedBoth store scenario y (records ++ landing_of doubt.commit ∷ [])

-- Where a doubt is dropped, since the place rises, there is nothing to do.
abbrev pub DropsKeepMaps : Type 0
DropsKeepMaps =
    (store : Store) (scenario : TamperScenario) (z y : ℕ) (records : List HistoryRecord) → z ≤ y → IsMappedBoth store scenario z records → IsMappedBoth store scenario y records
