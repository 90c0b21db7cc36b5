-- How the gate's entries, its counter and its open doubt are tied to the history that its seat knows.
use Rattle.std.specs.Prelude.{◌≡◌, ◌<◌, ℕ, List, Option, Some, None, length}
use Rattle.std.specs.List.Sorted.{IsStrictlySortedBy}
use Rattle.std.specs.Map.{keys_of}
use Rattle.tee_types.specs.declared.call.Call.{Call}
use Rattle.store_model.specs.Name.{name_cmp}
use Rattle.store_model.specs.Object.{Object}
use Rattle.store_model.specs.Makes.{MakesChange, MapChange}
use Rattle.store_model.specs.Doubt.{Doubt}
use Rattle.store_model.specs.ReplayState.{ReplayState}
use Rattle.dir_records.specs.declared.entry.DirEntry.{DirEntry}
use Rattle.history_seats.specs.Settling.{IsOpenDoubt, as_landed}
use Rattle.history_seats.specs.Views.{GateView}
use Rattle.history_seats.specs.Directory.{given_version}
use Rattle.crash_core.specs.declared.change.DoubtedChange.{DoubtedChange}
use Rattle.crash_core.specs.declared.change.EntryChange.{EntryChange}
use Rattle.crash_core.specs.EntryChanges.{IsChange, changed, index_of}
use Rattle.core_laws.specs.Listed.{AreListed}
use Rattle.core_laws.specs.TamperScenarios.{TamperScenario}
use Rattle.core_laws.specs.Stores.{Store, entries_at, replay_at}
use Rattle.core_laws.specs.Mapped.{landed_version}
use Rattle.core_laws.specs.Listings.{HaveListedVersions}
use Rattle.core_laws.specs.EntryLaws.{AreUnique}
use Rattle.core_laws.specs.Answered.{AreAnswered}
use Rattle.core_laws.specs.Matched.{AreMatched, AreReal}

-- The call changes the machine's map so that the entries change so.
pub record MakesEntries (s : ReplayState) (session : ℕ) (call : Call) (entries : List (Option DirEntry)) (change : EntryChange) : Type 0 where
  pub made : MapChange
  pub makes : MakesChange s.state session call made
  pub object : Object
  pub enters : IsChange s.state.objects entries s.counter made change object

-- The commit that is in doubt where the replay stands is the gate's, and its call makes the gate's change.
pub record IsReplayDoubt (s : ReplayState) (entries : List (Option DirEntry)) (d : DoubtedChange) : Type 0 where
  pub doubt : Doubt
  pub is_open : s.doubt ≡ Some doubt
  pub number : doubt.commit ≡ d.number
  pub makes : MakesEntries s doubt.session doubt.call entries d.change

-- The gate's doubt is open in the history, and the entries with its change are those of the history once it landed.
pub record IsTiedDoubt (store : Store) (view : GateView) (entries : List (Option DirEntry)) (d : DoubtedChange) : Type 0 where
  pub is_open : IsOpenDoubt d.number view.decided view.all
  pub place : index_of d.change < length entries
  pub landed : AreMatched store.keys (changed entries d.change) (as_landed (entries_at store view.all)).now (landed_version store.mounted view.all)
  pub stands : (scenario : TamperScenario) → AreAnswered store scenario view.all → IsReplayDoubt (replay_at store scenario view.all) entries d

-- where the gate has no doubt, none is open in the history from the view's place on
abbrev pub IsDoubtTied : Store → GateView → List (Option DirEntry) → Option DoubtedChange → Type 0
IsDoubtTied store view entries None = (number : ℕ) → IsOpenDoubt number view.decided view.all → ⊥
IsDoubtTied store view entries (Some d) = IsTiedDoubt store view entries d

-- What ties the gate's entries, counter and doubt to the history.
pub record IsTied (store : Store) (view : GateView) (entries : List (Option DirEntry)) (count : ℕ) (in_doubt : Option DoubtedChange) : Type 0 where
  pub listed : AreListed entries (entries_at store view.all).now
  pub unique : AreUnique (entries_at store view.all).now
  pub versions : HaveListedVersions entries (given_version store.mounted view.all)
  pub real : AreReal store.keys entries (given_version store.mounted view.all)
  pub counter : (scenario : TamperScenario) → AreAnswered store scenario view.all → (replay_at store scenario view.all).counter ≡ count
  -- the names of the machine's objects rise
  pub rising : (scenario : TamperScenario) → AreAnswered store scenario view.all → IsStrictlySortedBy name_cmp (keys_of (replay_at store scenario view.all).state.objects)
  pub doubt : IsDoubtTied store view entries in_doubt
