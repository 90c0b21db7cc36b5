-- The table keeps the open handles of the machine along a history, event by event, under each tamper scenario under which it is answered.
use Rattle.std.specs.Prelude.{◌≡◌, ◌<◌, ℕ, List, [], ◌∷◌, ◌++◌, length, Option, Some}
use Rattle.tee_types.specs.declared.call.Call.{Call}
use Rattle.tee_types.specs.declared.reply.Reply.{Reply}
use Rattle.dir_records.specs.declared.entry.DirEntry.{DirEntry}
use Rattle.open_table.specs.Table.{TableState}
use Rattle.store_model.specs.declared.event.Event.TheVariants.{Call as CallEvent, Landed}
use Rattle.store_model.specs.declared.event.Mark.TheVariants.{Unchanged, Made, Doubtful}
use Rattle.store_model.specs.Object.{Object}
use Rattle.store_model.specs.Machine.{MachineState}
use Rattle.store_model.specs.Makes.{MakesChange, MapChange}
use Rattle.store_model.specs.Doubt.{Doubt}
use Rattle.core_laws.specs.EntryLists.{AreDistinct}
use Rattle.core_laws.specs.declared.EntryChange.{EntryChange}
use Rattle.core_laws.specs.EntryChanges.{IsChange, changed, file_put}
use Rattle.open_table.specs.HandleChanges.{NotesReply}
use Rattle.core_laws.specs.Records.{HistoryRecord}
use Rattle.core_laws.specs.TamperScenarios.{TamperScenario}
use Rattle.core_laws.specs.Stores.{Store, replay_at}
use Rattle.core_laws.specs.Answered.{AreAnswered}
use Rattle.call_rules.specs.OpenHandles.{AreOpen}
use Rattle.call_rules.specs.OpenLaws.{IsOpenedFile, NotesLanding}

-- the machine's state after these records
abbrev pub state_at : Store → TamperScenario → List HistoryRecord → MachineState
state_at store scenario records = (replay_at store scenario records).state

-- A call that is marked Unchanged leaves the entries.
abbrev pub UnchangedEventsKeepOpen : Type 0
UnchangedEventsKeepOpen =
    (store : Store) (scenario : TamperScenario) (before : List HistoryRecord) (r : HistoryRecord) (entries : List (Option DirEntry)) (old new : TableState)
    (session number file : ℕ) (call : Call) (reply : Reply) → AreAnswered store scenario (before ++ r ∷ [])
    → r.event ≡ CallEvent session number call reply Unchanged → session < length (state_at store scenario before).sessions
    → AreOpen entries old (state_at store scenario before).sessions → IsOpenedFile entries (state_at store scenario before) session call reply file
    → NotesReply old new file session call reply → AreOpen entries new (state_at store scenario (before ++ r ∷ [])).sessions

-- One that left its commit in doubt leaves everything.
abbrev pub DoubtfulEventsKeepOpen : Type 0
DoubtfulEventsKeepOpen =
    (store : Store) (scenario : TamperScenario) (before : List HistoryRecord) (r : HistoryRecord) (entries : List (Option DirEntry)) (old new : TableState)
    (session number file commit : ℕ) (call : Call) (reply : Reply) → AreAnswered store scenario (before ++ r ∷ [])
    → r.event ≡ CallEvent session number call reply (Doubtful commit) → AreOpen entries old (state_at store scenario before).sessions
    → NotesReply old new file session call reply → AreOpen entries new (state_at store scenario (before ++ r ∷ [])).sessions

-- A commit that is made changes one entry.
abbrev pub MadeEventsKeepOpen : Type 0
MadeEventsKeepOpen =
    (store : Store) (scenario : TamperScenario) (before : List HistoryRecord) (r : HistoryRecord) (entries : List (Option DirEntry)) (old new : TableState)
    (session number file commit counter : ℕ) (call : Call) (reply : Reply) (made : MapChange) (change : EntryChange) (object : Object)
    → AreAnswered store scenario (before ++ r ∷ []) → r.event ≡ CallEvent session number call reply (Made commit)
    → AreOpen entries old (state_at store scenario before).sessions → AreDistinct entries
    → MakesChange (state_at store scenario before) session call made → IsChange (state_at store scenario before).objects entries counter made change object
    → ((put : ℕ) → file_put change ≡ Some put → file ≡ put) → NotesReply old new file session call reply
    → AreOpen (changed entries change) new (state_at store scenario (before ++ r ∷ [])).sessions

-- So does one that lands.
abbrev pub LandedEventsKeepOpen : Type 0
LandedEventsKeepOpen =
    (store : Store) (scenario : TamperScenario) (before : List HistoryRecord) (r : HistoryRecord) (entries : List (Option DirEntry)) (old new : TableState)
    (commit counter : ℕ) (doubt : Doubt) (made : MapChange) (change : EntryChange) (object : Object) → AreAnswered store scenario (before ++ r ∷ [])
    → r.event ≡ Landed commit → (replay_at store scenario before).doubt ≡ Some doubt → AreOpen entries old (state_at store scenario before).sessions
    → AreDistinct entries → MakesChange (state_at store scenario before) doubt.session doubt.call made
    → IsChange (state_at store scenario before).objects entries counter made change object → NotesLanding old new doubt.session doubt.call
    → AreOpen (changed entries change) new (state_at store scenario (before ++ r ∷ [])).sessions
