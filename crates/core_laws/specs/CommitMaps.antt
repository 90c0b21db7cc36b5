-- A commit that changes the gate's entries as its call does keeps the map of objects in step, made or in doubt.
use Rattle.std.specs.Prelude.{◌≡◌, ℕ, true, List, [], Option, Some}
use Rattle.hmac_keys.specs.declared.Keys.{Keys}
use Rattle.tee_types.specs.declared.call.Call.{Call}
use Rattle.tee_types.specs.declared.call.Call.TheVariants.{Create, Rename, Truncate, Write}
use Rattle.tee_types.specs.declared.reply.Reply.{Reply}
use Rattle.store_model.specs.Object.{Contents, Sound, changed_object}
use Rattle.store_model.specs.Calls.{state_after}
use Rattle.store_model.specs.Legal.{is_commit_due}
use Rattle.store_model.specs.Record.{Tag}
use Rattle.dir_records.specs.declared.entry.DirEntry.{DirEntry}
use Rattle.history_seats.specs.Records.{HistoryRecord, Version}
use Rattle.history_seats.specs.Directory.{given_version}
use Rattle.history_seats.specs.Views.{GateView}
use Rattle.crash_core.specs.Entries.{name_of}
use Rattle.crash_core.specs.declared.change.EntryChange.{EntryChange}
use Rattle.crash_core.specs.declared.change.EntryChange.TheVariants.{Put}
use Rattle.crash_core.specs.declared.change.DoubtedChange.{DoubtedChange}
use Rattle.core_laws.specs.TamperScenarios.{TamperScenario, object_under}
use Rattle.core_laws.specs.Decodings.{IsReal}
use Rattle.core_laws.specs.Stores.{Store, replay_at}
use Rattle.core_laws.specs.Mapped.{IsMapped}
use Rattle.core_laws.specs.CommitLaws.{Place}
use Rattle.core_laws.specs.EntryLaws.{EndsKeepMaps}
use Rattle.core_laws.specs.Answered.{AreAnswered}
use Rattle.core_laws.specs.CallChanges.{IsEntryCommit}
use Rattle.core_laws.specs.MachineChanges.{IsCallOn}
use Rattle.core_laws.specs.Ties.{IsTied}

-- What stands for the version that the commit leaves is the machine's object: the one that a create makes, the one that a write or a truncate
-- leaves, and of a rename the one that stood.
abbrev pub LeavesObject : Store → TamperScenario → List HistoryRecord → (session : ℕ) → Call → EntryChange → Tag Version → Option Version → Type 0
LeavesObject store scenario before session (Create id flags attributes bytes) (Put index e) tag left =
    (v : Version) → left ≡ Some v → object_under store.keys scenario e.file e.generation v ≡ Sound (record { attributes = attributes; bytes = bytes; bad = [] })
LeavesObject store scenario before session (Write handle bytes) (Put index e) tag left =
    (v : Version) → left ≡ Some v → (state_after (replay_at store scenario before).state session (Write handle bytes)).objects
    ≡ changed_object (replay_at store scenario before).state.objects (name_of e) (object_under store.keys scenario e.file e.generation v)
LeavesObject store scenario before session (Truncate handle size) (Put index e) tag left =
    (v : Version) → left ≡ Some v → (state_after (replay_at store scenario before).state session (Truncate handle size)).objects
    ≡ changed_object (replay_at store scenario before).state.objects (name_of e) (object_under store.keys scenario e.file e.generation v)
LeavesObject store scenario before session (Rename handle id) change tag left = left ≡ given_version store.mounted before tag.file tag.generation
LeavesObject store scenario before session _ change tag left = Unit {0}

-- where the tag's object is
abbrev pub place_of : Tag Version → Place
place_of tag = record { file = tag.file; generation = tag.generation }

-- Under a tamper scenario: a commit of the machine, which changes the gate's entries so and leaves that version.
pub record IsCommitUnder (store : Store) (scenario : TamperScenario) (view : GateView) (entries : List (Option DirEntry)) (counter session : ℕ) (call : Call) (change : EntryChange) (tag : Tag Version) (left : Option Version) : Type 0 where
  pub answered : AreAnswered store scenario view.all
  pub mapped : IsMapped store scenario view.all
  pub commit : IsEntryCommit store entries counter session call change tag left
  pub due : is_commit_due (replay_at store scenario view.all) session call ≡ true
  pub on : IsCallOn (replay_at store scenario view.all).state session call entries change
  pub object : LeavesObject store scenario view.all session call change tag left

abbrev pub CommitsKeepMaps : Type 0
CommitsKeepMaps =
    (store : Store) (scenario : TamperScenario) (view : GateView) (entries : List (Option DirEntry)) (counter : ℕ) (doubt : Option DoubtedChange) → IsTied store view entries counter doubt
    → (session number : ℕ) (call : Call) (reply : Reply) (change : EntryChange) (tag : Tag Version) (left : Option Version)
    → IsCommitUnder store scenario view entries counter session call change tag left → EndsKeepMaps store scenario view.all session number call reply (place_of tag) left

-- A version without damage stands under every tamper scenario: so does what a create makes.
abbrev pub WholeVersionsStand : Type 0
WholeVersionsStand =
    (keys : Keys) (scenario : TamperScenario) (file generation : ℕ) (v : Version) (c : Contents) → IsReal keys v → v.object ≡ Sound c → c.bad ≡ []
    → object_under keys scenario file generation v ≡ Sound c
