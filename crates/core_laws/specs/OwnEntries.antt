-- What the gate's ties tell of its entries and of what it lacks, in the words of the laws on the map of objects.
use Rattle.std.specs.Prelude.{◌≡◌, ◌≢◌, ℕ, true, false, List, Option, Some, None}
use Rattle.tee_types.specs.declared.call.Call.{Call}
use Rattle.store_model.specs.declared.name.ObjectName.{ObjectName}
use Rattle.store_model.specs.Object.{holds}
use Rattle.store_model.specs.Files.{name_by}
use Rattle.store_model.specs.Legal.{is_commit_due}
use Rattle.store_model.specs.Record.{Tag}
use Rattle.store_model.specs.ReplayState.{ReplayState}
use Rattle.dir_records.specs.declared.entry.DirEntry.{DirEntry}
use Rattle.history_seats.specs.Records.{Version}
use Rattle.history_seats.specs.Mounts.{Entry}
use Rattle.history_seats.specs.Directory.{given_version}
use Rattle.history_seats.specs.Views.{GateView}
use Rattle.crash_core.specs.Entries.{name_of}
use Rattle.crash_core.specs.declared.change.EntryChange.{EntryChange}
use Rattle.crash_core.specs.EntryLists.{IsUnnamed, entry_at}
use Rattle.crash_core.specs.DirectoryLaws.{AreEntries}
use Rattle.crash_core.specs.declared.change.DoubtedChange.{DoubtedChange}
use Rattle.core_laws.specs.Listed.{history_entry}
use Rattle.core_laws.specs.TamperScenarios.{TamperScenario}
use Rattle.core_laws.specs.Stores.{Store, entries_at, entry_named, replay_at}
use Rattle.core_laws.specs.Mapped.{IsMapped}
use Rattle.core_laws.specs.EntryLaws.{HasOwnEntry}
use Rattle.core_laws.specs.Answered.{AreAnswered}
use Rattle.core_laws.specs.CallChanges.{IsEntryCommit, LacksName}
use Rattle.core_laws.specs.Ties.{IsTied, MakesEntries}
use Rattle.core_laws.specs.MachineChanges.{IsCallOn}
use Rattle.core_laws.specs.EntryFacts.{AreEntryFacts}

-- A file or a name that no entry of the gate has, none of the history's has, and the machine holds no object of that name.
pub record AreLacked (entries : List (Option DirEntry)) (listed : List Entry) (s : ReplayState) : Type 0 where
  pub file : (file : ℕ) → IsUnnamed entries file → (name : ObjectName) (x : Entry) → entry_named name listed ≡ Some x → x.file ≢ file
  pub name : (name : ObjectName) → LacksName entries name → entry_named name listed ≡ None
  pub object : (name : ObjectName) → LacksName entries name → holds s.state.objects name ≡ false

-- Where the map is in step, the gate's entries tell of the machine's objects: of those that are there, of what is lacked, and of the one for
-- which a session's live handle stands.
pub record AreTold (store : Store) (scenario : TamperScenario) (view : GateView) (entries : List (Option DirEntry)) : Type 0 where
  pub mapped : IsMapped store scenario view.all
  pub facts : AreEntryFacts store.keys scenario (given_version store.mounted view.all) (entries_at store view.all).now (replay_at store scenario view.all) entries
  pub lacked : AreLacked entries (entries_at store view.all).now (replay_at store scenario view.all)
  pub own : (session handle index : ℕ) (e : DirEntry) → entry_at entries index ≡ Some e → name_by (replay_at store scenario view.all).state session handle ≡ Some (name_of e)
      → HasOwnEntry store scenario view.all session handle (name_of e) (history_entry e) (record { file = e.file; generation = e.generation })

abbrev pub TiedEntriesTell : Type 0
TiedEntriesTell =
    (store : Store) (scenario : TamperScenario) (view : GateView) (entries : List (Option DirEntry)) (counter : ℕ) (doubt : Option DoubtedChange) → IsTied store view entries counter doubt
    → AreEntries entries → AreAnswered store scenario view.all → IsMapped store scenario view.all → AreTold store scenario view entries

-- A commit of the gate's entries is the machine's, where its call is one.
abbrev pub TiedCommitsMakeEntries : Type 0
TiedCommitsMakeEntries =
    (store : Store) (scenario : TamperScenario) (view : GateView) (entries : List (Option DirEntry)) (counter : ℕ) (doubt : Option DoubtedChange) → IsTied store view entries counter doubt
    → AreAnswered store scenario view.all → IsMapped store scenario view.all → (session : ℕ) (call : Call) (change : EntryChange) (tag : Tag Version) (left : Option Version)
    → IsEntryCommit store entries counter session call change tag left → IsCallOn (replay_at store scenario view.all).state session call entries change
    → is_commit_due (replay_at store scenario view.all) session call ≡ true → MakesEntries (replay_at store scenario view.all) session call entries change
