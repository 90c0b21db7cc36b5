-- What an entry of the gate tells of the machine's objects, under each tamper scenario.
use Rattle.std.specs.Prelude.{◌≡◌, ℕ, true, List, Option, Some}
use Rattle.std.specs.Ordering.{is_eq}
use Rattle.hmac_keys.specs.declared.Keys.{Keys}
use Rattle.store_model.specs.declared.name.ObjectName.{ObjectName}
use Rattle.store_model.specs.Name.{name_cmp}
use Rattle.store_model.specs.Object.{Object, object_at, size_of}
use Rattle.store_model.specs.ReplayState.{ReplayState}
use Rattle.dir_records.specs.declared.entry.DirEntry.{DirEntry}
use Rattle.history_seats.specs.Records.{Version}
use Rattle.history_seats.specs.Mounts.{Entry}
use Rattle.crash_core.specs.Entries.{name_of}
use Rattle.crash_core.specs.EntryLists.{AreDistinct, AreSingle, entry_at}
use Rattle.core_laws.specs.GateParts.{IsVersionOf}
use Rattle.core_laws.specs.Listed.{history_entry}
use Rattle.core_laws.specs.TamperScenarios.{TamperScenario, object_under}
use Rattle.core_laws.specs.Decodings.{IsReal}
use Rattle.core_laws.specs.Stores.{entry_named}
use Rattle.core_laws.specs.Mapped.{AreApart, IsInStep, Versions}
use Rattle.core_laws.specs.Matched.{AreMatched}
use Rattle.core_laws.specs.MachineChanges.{HaveSizes}

-- The history's entry of its name is this entry, its version is real, and the object of its name is what stands for the version, with the
-- size that the entry tells.
pub record IsEntryFact (keys : Keys) (scenario : TamperScenario) (versions : Versions) (listed : List Entry) (s : ReplayState) (e : DirEntry) : Type 0 where
  pub named : entry_named (name_of e) listed ≡ Some (history_entry e)
  pub version : Version
  pub gives : versions e.file e.generation ≡ Some version
  pub own : IsVersionOf e version
  pub real : IsReal keys version
  pub object : object_at s.state.objects (name_of e) ≡ Some (object_under keys scenario e.file e.generation version)
  pub size : size_of (object_under keys scenario e.file e.generation version) ≡ e.size

-- an entry stands at some place, and has the name
pub record HasEntryNamed (entries : List (Option DirEntry)) (name : ObjectName) : Type 0 where
  pub index : ℕ
  pub entry : DirEntry
  pub at : entry_at entries index ≡ Some entry
  pub named : is_eq (name_cmp name (name_of entry)) ≡ true

-- Of entries that match a history whose map is in step: each tells so, each object has an entry, and the history's entries of one file have one
-- name.
pub record AreEntryFacts (keys : Keys) (scenario : TamperScenario) (versions : Versions) (listed : List Entry) (s : ReplayState) (entries : List (Option DirEntry)) : Type 0 where
  pub each : (index : ℕ) (e : DirEntry) → entry_at entries index ≡ Some e → IsEntryFact keys scenario versions listed s e
  pub sizes : HaveSizes entries s.state.objects
  pub back : (name : ObjectName) (object : Object) → object_at s.state.objects name ≡ Some object → HasEntryNamed entries name
  pub apart : AreApart listed

-- As the map stands, and as it is once the doubt landed.
abbrev pub MatchedEntriesTell : Type 0
MatchedEntriesTell =
    (keys : Keys) (scenario : TamperScenario) (versions : Versions) (listed : List Entry) (s : ReplayState) (entries : List (Option DirEntry)) → AreMatched keys entries listed versions
    → AreDistinct entries → AreSingle entries → IsInStep keys scenario versions listed s → AreEntryFacts keys scenario versions listed s entries
