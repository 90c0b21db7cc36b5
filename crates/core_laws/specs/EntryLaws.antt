-- Commits that make, rename and delete an object, and the map.
use Rattle.std.specs.Prelude.{◌≡◌, ℕ, List, [], ◌∷◌, ◌++◌, Option, Some, None, slice_index_or}
use Rattle.std.specs.List.Sorted.{IsStrictlySortedBy}
use Rattle.std.specs.Map.{keys_of}
use Rattle.tee_types.specs.declared.call.Call.{Call}
use Rattle.tee_types.specs.declared.call.Call.TheVariants.{Create, Delete, Rename}
use Rattle.tee_types.specs.declared.flags.Flags.{Flags}
use Rattle.tee_types.specs.declared.reply.Reply.{Reply}
use Rattle.store_model.specs.declared.name.ObjectName.{ObjectName}
use Rattle.store_model.specs.declared.event.Mark.TheVariants.{Made, Doubtful}
use Rattle.store_model.specs.Name.{name_cmp}
use Rattle.store_model.specs.Object.{moved_object, with_object, without_object}
use Rattle.store_model.specs.Machine.{name_in}
use Rattle.store_model.specs.Calls.{state_after}
use Rattle.store_model.specs.Files.{name_by}
use Rattle.history_seats.specs.Records.{HistoryRecord, Version}
use Rattle.history_seats.specs.Mounts.{Entry}
use Rattle.history_seats.specs.Directory.{given_version}
use Rattle.history_seats.specs.Tags.{HasRightTag}
use Rattle.core_laws.specs.TamperScenarios.{TamperScenario, object_under}
use Rattle.core_laws.specs.Stores.{Store, entries_at, entry_named, replay_at}
use Rattle.core_laws.specs.Mapped.{AreApart, IsMapped, IsMappedBoth}
use Rattle.core_laws.specs.CommitLaws.{Place, commit_record}

-- no entry has the name of a later one
abbrev pub AreUnique : List Entry → Type 0
AreUnique [] = Unit {0}
AreUnique (e ∷ entries) = (entry_named e.name entries ≡ None) × AreUnique entries

-- A commit keeps the map in step, made or in doubt, in both readings.
pub record EndsKeepMaps (store : Store) (scenario : TamperScenario) (before : List HistoryRecord) (session number : ℕ) (call : Call) (reply : Reply) (place : Place) (left : Option Version) : Type 0 where
  pub made : (commit : ℕ) → HasRightTag store.mounted before (commit_record session number call reply (Made commit) place left None)
      → IsMappedBoth store scenario 0 (before ++ commit_record session number call reply (Made commit) place left None ∷ [])
  pub doubtful : (commit : ℕ)
      → HasRightTag store.mounted before (commit_record session number call reply (Doubtful commit) place (given_version store.mounted before place.file place.generation) left)
      → IsMappedBoth store scenario 0
      (before ++ commit_record session number call reply (Doubtful commit) place (given_version store.mounted before place.file place.generation) left ∷ [])

-- the name that a call of a session gives an object
abbrev pub name_given : Store → (session : ℕ) → (id : List ℕ) → ObjectName
name_given store session id = record { app = slice_index_or store.mounted.applications session []; id = id }

-- A call makes an object in a file of its own, and leaves that version there.
pub record CreatesObject (store : Store) (scenario : TamperScenario) (before : List HistoryRecord) (session : ℕ) (id : List ℕ) (flags : Flags) (attributes bytes : List ℕ) (place : Place) (version : Version) : Type 0 where
  pub mapped : IsMapped store scenario before
  pub name : name_in (replay_at store scenario before).state session id ≡ name_given store session id
  -- no entry has the file and the generation
  pub fresh : (name : ObjectName) (e : Entry) → entry_named name (entries_at store before).now ≡ Some e → (e.file ≡ place.file) × (e.generation ≡ place.generation) → ⊥
  pub changes : (state_after (replay_at store scenario before).state session (Create id flags attributes bytes)).objects
      ≡ with_object (replay_at store scenario before).state.objects (name_given store session id) (object_under store.keys scenario place.file place.generation version)

-- the object of an entry whose names and files are told apart, in a map in the order of the names
pub record HasOwnEntry (store : Store) (scenario : TamperScenario) (before : List HistoryRecord) (session handle : ℕ) (old : ObjectName) (entry : Entry) (place : Place) : Type 0 where
  pub mapped : IsMapped store scenario before
  pub apart : AreApart (entries_at store before).now
  pub unique : AreUnique (entries_at store before).now
  pub rising : IsStrictlySortedBy name_cmp (keys_of (replay_at store scenario before).state.objects)
  pub by_handle : name_by (replay_at store scenario before).state session handle ≡ Some old
  pub named : entry_named old (entries_at store before).now ≡ Some entry
  pub file : entry.file ≡ place.file
  pub generation : entry.generation ≡ place.generation

-- A call renames an object whose version stays, to a name that no entry has.
pub record RenamesObject (store : Store) (scenario : TamperScenario) (before : List HistoryRecord) (session handle : ℕ) (id : List ℕ) (old : ObjectName) (entry : Entry) (place : Place) (version : Version) : Type 0 where
  pub own : HasOwnEntry store scenario before session handle old entry place
  pub gives : given_version store.mounted before place.file place.generation ≡ Some version
  pub name : name_in (replay_at store scenario before).state session id ≡ name_given store session id
  pub free : entry_named (name_given store session id) (entries_at store before).now ≡ None
  pub changes : (state_after (replay_at store scenario before).state session (Rename handle id)).objects
      ≡ moved_object (replay_at store scenario before).state.objects old (name_given store session id)

-- A call deletes an object.
pub record DeletesObject (store : Store) (scenario : TamperScenario) (before : List HistoryRecord) (session handle : ℕ) (old : ObjectName) (entry : Entry) (place : Place) : Type 0 where
  pub own : HasOwnEntry store scenario before session handle old entry place
  pub changes : (state_after (replay_at store scenario before).state session (Delete handle)).objects ≡ without_object (replay_at store scenario before).state.objects old

abbrev pub CreatesKeepMaps : Type 0
CreatesKeepMaps =
    (store : Store) (scenario : TamperScenario) (before : List HistoryRecord) (session number : ℕ) (id : List ℕ) (flags : Flags) (attributes bytes : List ℕ) (reply : Reply) (place : Place)
    (version : Version) → CreatesObject store scenario before session id flags attributes bytes place version
    → EndsKeepMaps store scenario before session number (Create id flags attributes bytes) reply place (Some version)

abbrev pub RenamesKeepMaps : Type 0
RenamesKeepMaps =
    (store : Store) (scenario : TamperScenario) (before : List HistoryRecord) (session number handle : ℕ) (id : List ℕ) (reply : Reply) (old : ObjectName) (entry : Entry) (place : Place)
    (version : Version) → RenamesObject store scenario before session handle id old entry place version
    → EndsKeepMaps store scenario before session number (Rename handle id) reply place (Some version)

abbrev pub DeletesKeepMaps : Type 0
DeletesKeepMaps =
    (store : Store) (scenario : TamperScenario) (before : List HistoryRecord) (session number handle : ℕ) (reply : Reply) (old : ObjectName) (entry : Entry) (place : Place)
    → DeletesObject store scenario before session handle old entry place
    → EndsKeepMaps store scenario before session number (Delete handle) reply place None
