-- Commits that change an object in place, and the map.
use Rattle.std.specs.Prelude.{◌≡◌, ℕ, List, [], ◌∷◌, ◌++◌, Option, Some, None, IsSome}
use Rattle.tee_types.specs.declared.call.Call.{Call}
use Rattle.tee_types.specs.declared.reply.Reply.{Reply}
use Rattle.store_model.specs.declared.name.ObjectName.{ObjectName}
use Rattle.store_model.specs.declared.event.Event.TheVariants.{Call as CallEvent}
use Rattle.store_model.specs.declared.event.Mark.{Mark}
use Rattle.store_model.specs.declared.event.Mark.TheVariants.{Made, Doubtful}
use Rattle.store_model.specs.Object.{changed_object}
use Rattle.store_model.specs.Calls.{state_after}
use Rattle.history_seats.specs.Records.{HistoryRecord, Version}
use Rattle.history_seats.specs.Mounts.{Entry}
use Rattle.history_seats.specs.Directory.{given_version}
use Rattle.history_seats.specs.Tags.{HasRightTag}
use Rattle.core_laws.specs.TamperScenarios.{TamperScenario, object_under}
use Rattle.core_laws.specs.Stores.{Store, entries_at, entry_named, replay_at}
use Rattle.core_laws.specs.Mapped.{AreApart, IsMapped, IsMappedBoth}
use Rattle.core_laws.specs.Shown.{IsPartial}

-- where an object's file and generation are
pub record Place : Type 0 where
  pub file : ℕ
  pub generation : ℕ

-- A call changes an object in place, and leaves that version in its file: the machine has then what stands for the version.
pub record ChangesObject (store : Store) (scenario : TamperScenario) (before : List HistoryRecord) : Type 0 where
  pub session : ℕ
  pub number : ℕ
  pub call : Call
  pub reply : Reply
  pub tag : Place
  pub version : Version
  pub mapped : IsMapped store scenario before
  pub apart : AreApart (entries_at store before).now
  pub mine : ObjectName
  pub entry : Entry
  pub named : entry_named mine (entries_at store before).now ≡ Some entry
  pub file : entry.file ≡ tag.file
  pub generation : entry.generation ≡ tag.generation
  pub there : IsSome (given_version store.mounted before tag.file tag.generation)
  pub changes : (state_after (replay_at store scenario before).state session call).objects
      ≡ changed_object (replay_at store scenario before).state.objects mine (object_under store.keys scenario tag.file tag.generation version)

-- the record of a call with that mark, on the object there, whose tag has these versions
abbrev pub commit_record : (session number : ℕ) → Call → Reply → Mark → Place → (committed doubted : Option Version) → HistoryRecord
commit_record session number call reply mark place committed doubted = record {
  event = CallEvent session number call reply mark;
  tag = Some (record { file = place.file; generation = place.generation; committed = committed; doubted = doubted });
}

abbrev pub changing_record : {store : Store} {scenario : TamperScenario} {before : List HistoryRecord} → ChangesObject store scenario before → Mark
    → (committed doubted : Option Version) → HistoryRecord
changing_record x mark committed doubted = commit_record x.session x.number x.call x.reply mark x.tag committed doubted

-- A write or a truncation that is made leaves the map in step.
abbrev pub MadeChangesKeepMaps : Type 0
MadeChangesKeepMaps =
    (store : Store) (scenario : TamperScenario) (before : List HistoryRecord) (x : ChangesObject store scenario before) (commit : ℕ) → IsPartial x.call
    → HasRightTag store.mounted before (changing_record x (Made commit) (Some x.version) None)
    → IsMappedBoth store scenario 0 (before ++ changing_record x (Made commit) (Some x.version) None ∷ [])

-- So does one in doubt, in both readings.
abbrev pub DoubtfulChangesKeepMaps : Type 0
DoubtfulChangesKeepMaps =
    (store : Store) (scenario : TamperScenario) (before : List HistoryRecord) (x : ChangesObject store scenario before) (commit : ℕ) → IsPartial x.call
    → let committed = given_version store.mounted before x.tag.file x.tag.generation in
    HasRightTag store.mounted before (changing_record x (Doubtful commit) committed (Some x.version))
    → IsMappedBoth store scenario 0 (before ++ changing_record x (Doubtful commit) committed (Some x.version) ∷ [])
