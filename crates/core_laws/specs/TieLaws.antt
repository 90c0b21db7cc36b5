-- The ties hold at the opening, and each kind of event keeps them.
use Rattle.std.specs.Prelude.{◌≡◌, ◌≤◌, ℕ, true, List, [], Option, Some, None, Contains, length}
use Rattle.std.specs.List.Sorted.{IsStrictlySortedBy}
use Rattle.std.specs.Map.{keys_of}
use Rattle.disk_model.specs.State.{FileState}
use Rattle.tee_types.specs.declared.call.Call.{Call}
use Rattle.tee_types.specs.declared.reply.Reply.{Reply}
use Rattle.store_model.specs.declared.event.Event.{Event}
use Rattle.store_model.specs.declared.event.Event.TheVariants.{Call as CallEvent, Landed}
use Rattle.store_model.specs.declared.event.Mark.TheVariants.{Unchanged, Made, Doubtful}
use Rattle.store_model.specs.Name.{name_cmp}
use Rattle.store_model.specs.Object.{ObjectMap}
use Rattle.store_model.specs.Legal.{is_commit_due}
use Rattle.store_model.specs.Record.{Tag}
use Rattle.store_model.specs.ReplayState.{ReplayState, keeps_doubt, replay}
use Rattle.dir_records.specs.declared.entry.DirEntry.{DirEntry}
use Rattle.history_seats.specs.Records.{HistoryRecord, Version}
use Rattle.history_seats.specs.Mounts.{MountedEntry}
use Rattle.history_seats.specs.Settling.{HasMark}
use Rattle.history_seats.specs.Views.{GateView}
use Rattle.history_seats.specs.Tags.{HasRightTag}
use Rattle.history_seats.specs.Changes.{doubt_dropped, landing_of, with_record, call_record}
use Rattle.crash_core.specs.declared.change.EntryChange.{EntryChange}
use Rattle.crash_core.specs.EntryChanges.{changed}
use Rattle.crash_core.specs.declared.change.DoubtedChange.{DoubtedChange}
use Rattle.core_laws.specs.Opened.{IsMountOf}
use Rattle.core_laws.specs.TamperScenarios.{TamperScenario}
use Rattle.core_laws.specs.Decodings.{IsReal}
use Rattle.core_laws.specs.Stores.{Store, replay_at}
use Rattle.core_laws.specs.MapLaws.{AreMountedApart}
use Rattle.core_laws.specs.Answered.{AreAnswered}
use Rattle.core_laws.specs.CallChanges.{IsEntryCommit}
use Rattle.core_laws.specs.Ties.{IsTied, MakesEntries}

-- the names of the objects rise
abbrev pub AreRising : ObjectMap → Type 0
AreRising objects = IsStrictlySortedBy name_cmp (keys_of objects)

-- Along every replay the names of the machine's objects rise, if they do where it begins.
abbrev pub ReplaysRise : Type 0
ReplaysRise = (s : ReplayState) (records : List HistoryRecord) → AreRising s.state.objects → AreRising (replay s records).state.objects

-- Before the first event: of a mount that tells of the entries, and of real versions.
abbrev pub OpeningsAreTied : Type 0
OpeningsAreTied =
    (store : Store) (view : GateView) (files : ℕ → FileState) (entries : List (Option DirEntry)) → view.all ≡ [] → IsMountOf store.keys files entries store.mounted
    → AreMountedApart store.mounted.entries → ((m : MountedEntry) → Contains store.mounted.entries m → IsReal store.keys m.version) → AreRising store.objects
    → IsTied store view entries store.counter None

-- the reply leaves the gate's doubt open, if there is one
abbrev pub KeepsDoubt : Option DoubtedChange → Event → Type 0
KeepsDoubt None event = Unit {0}
KeepsDoubt (Some d) (CallEvent session number call reply mark) = keeps_doubt reply ≡ true
KeepsDoubt (Some d) (Landed commit) = ⊥

-- An event that commits nothing.
abbrev pub UnchangedEventsKeepTies : Type 0
UnchangedEventsKeepTies =
    (store : Store) (view : GateView) (entries : List (Option DirEntry)) (counter : ℕ) (doubt : Option DoubtedChange) (r : HistoryRecord) → HasMark Unchanged r.event
    → HasRightTag store.mounted view.all r → KeepsDoubt doubt r.event → IsTied store view entries counter doubt → IsTied store (with_record r view) entries counter doubt

-- A commit that is made: the entries change, and the counter is its number.
abbrev pub MadeCommitsKeepTies : Type 0
MadeCommitsKeepTies =
    (store : Store) (view : GateView) (entries : List (Option DirEntry)) (counter : ℕ) (doubt : Option DoubtedChange) (session number : ℕ) (call : Call) (reply : Reply) (commit : ℕ) (tag : Tag Version)
    (change : EntryChange) → let r = call_record session number call reply (Made commit) (Some tag) in
    HasRightTag store.mounted view.all r → IsEntryCommit store entries counter session call change tag tag.committed → IsTied store view entries counter doubt
    → IsTied store (with_record r view) (changed entries change) commit None

-- A commit in doubt: the entries and the counter stay, and its change is the gate's doubt. Where the call is a commit of the machine, that
-- makes the change.
abbrev pub DoubtfulCommitsKeepTies : Type 0
DoubtfulCommitsKeepTies =
    (store : Store) (view : GateView) (entries : List (Option DirEntry)) (counter : ℕ) (doubt : Option DoubtedChange) (session number : ℕ) (call : Call) (reply : Reply) (commit : ℕ) (tag : Tag Version)
    (change : EntryChange) → let r = call_record session number call reply (Doubtful commit) (Some tag) in
    HasRightTag store.mounted view.all r → view.decided ≤ length view.all → IsEntryCommit store entries counter session call change tag tag.doubted
    → ((scenario : TamperScenario) → AreAnswered store scenario view.all → is_commit_due (replay_at store scenario view.all) session call ≡ true
    → MakesEntries (replay_at store scenario view.all) session call entries change)
    → IsTied store view entries counter doubt → IsTied store (with_record r view) entries counter (Some (record { number = commit; change = change }))

-- The landing of the gate's doubt: its change is made.
abbrev pub LandingsKeepTies : Type 0
LandingsKeepTies =
    (store : Store) (view : GateView) (entries : List (Option DirEntry)) (counter : ℕ) (d : DoubtedChange) → IsTied store view entries counter (Some d)
    → IsTied store (with_record (landing_of d.number) view) (changed entries d.change) d.number None

-- A doubt that is dropped: no doubt of now lands any more.
abbrev pub DropsKeepTies : Type 0
DropsKeepTies =
    (store : Store) (view : GateView) (entries : List (Option DirEntry)) (counter : ℕ) (doubt : Option DoubtedChange) → IsTied store view entries counter doubt
    → IsTied store (doubt_dropped view) entries counter None
