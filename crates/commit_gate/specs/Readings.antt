-- What ties a gate to the history that its seat knows, under a tamper scenario.
use Rattle.std.specs.Prelude.{◌≡◌, ℕ, List, Option, Some, None}
use Rattle.std.specs.List.Sorted.{IsStrictlySortedBy}
use Rattle.std.specs.Map.{keys_of}
use Rattle.store_model.specs.Doubt.{Doubt}
use Rattle.store_model.specs.Name.{name_cmp}
use Rattle.store_model.specs.ReplayState.{ReplayState, replay_landed}
use Rattle.dir_records.specs.declared.entry.DirEntry.{DirEntry}
use Rattle.history_seats.specs.Mounts.{Entry}
use Rattle.history_seats.specs.Settling.{IsOpenDoubt, as_landed}
use Rattle.history_seats.specs.Directory.{given_version}
use Rattle.history_seats.specs.Views.{GateView}
use Rattle.core_laws.specs.TamperScenarios.{TamperScenario}
use Rattle.core_laws.specs.Mapped.{IsInStep, Versions, landed_version}
use Rattle.core_laws.specs.Stores.{Store, entries_at, replay_at}
use Rattle.core_laws.specs.Matched.{AreMatched}
use Rattle.crash_core.specs.declared.change.DoubtedChange.{DoubtedChange}
use Rattle.crash_core.specs.EntryChanges.{changed}

-- A directory's entries match the history's, and the machine's map is in step with both.
pub record IsReading (store : Store) (scenario : TamperScenario) (entries : List (Option DirEntry)) (kept : List Entry) (given : Versions) (s : ReplayState) : Type 0 where
  pub matched : AreMatched store.keys entries kept given
  pub in_step : IsInStep store.keys scenario given kept s

-- The gate's doubt is the one that the replay has open, and it may still land: then the entries are those with the change.
pub record IsDoubtRead (store : Store) (scenario : TamperScenario) (view : GateView) (entries : List (Option DirEntry)) (d : DoubtedChange) : Type 0 where
  pub doubt : Doubt
  pub is_open : (replay_at store scenario view.all).doubt ≡ Some doubt
  pub number : doubt.commit ≡ d.number
  pub late : IsOpenDoubt d.number view.decided view.all
  pub landed : IsReading store scenario (changed entries d.change) (as_landed (entries_at store view.all)).now (landed_version store.mounted view.all)
      (replay_landed (replay_at store scenario view.all) (Some doubt))

abbrev pub AreDoubtsRead : Store → TamperScenario → GateView → List (Option DirEntry) → Option DoubtedChange → Type 0
AreDoubtsRead store scenario view entries None = Unit {0}
AreDoubtsRead store scenario view entries (Some d) = IsDoubtRead store scenario view entries d

-- Entries, counter and doubt of a gate are those of the history.
pub record IsTiedUnder (store : Store) (scenario : TamperScenario) (view : GateView) (entries : List (Option DirEntry)) (counter : ℕ) (doubt : Option DoubtedChange) : Type 0 where
  pub mounted : view.mounted ≡ Some store.mounted
  pub counted : (replay_at store scenario view.all).counter ≡ counter
  pub rising : IsStrictlySortedBy name_cmp (keys_of ((replay_at store scenario view.all).state).objects)
  pub now : IsReading store scenario entries (entries_at store view.all).now (given_version store.mounted view.all) (replay_at store scenario view.all)
  pub doubts : AreDoubtsRead store scenario view entries doubt
